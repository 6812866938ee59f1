-- One line more.
use Rattle.std.proofs.Common.{◌≡◌, refl, sym, ap, ◌∙◌, ℕ, ◌+◌, ◌<◌, List, [], ◌∷◌, ◌++◌, take, length, get_or}
use Rattle.std.proofs.lemmas.List.{append_assoc, append-nil, take_more, map-append}
use Rattle.definitions.specs.Journal.{HistoryRecord}
use Rattle.record_model.specs.declared.ended.History.{History}
use Rattle.record_model.specs.Seen.{history_seen, histories_seen}
use Rattle.std.specs.Fmt.{signed_decimal}
use Rattle.printing.specs.Lines.{escaped, IsTimeText, IsHitLine, PrintsHits}

pub no_hits : PrintsHits [] []
unfolding PrintsHits
no_hits = refl

prints-more : (hits : List HistoryRecord) (text : List ℕ) (h : HistoryRecord) (line : List ℕ) → PrintsHits hits text → IsHitLine h line → PrintsHits (hits ++ h ∷ []) (text ++ line)
unfolding PrintsHits
prints-more [] text h line none is = (line, [], is, refl, ap (λ t. t ++ line) none ∙ sym (append-nil line))
prints-more (one ∷ hits) text h line (first, rest, of_one, of_rest, e) is =
    (first, rest ++ line, of_one, prints-more hits rest h line of_rest is, ap (λ t. t ++ line) e ∙ append_assoc first rest line)

-- the hit behind the first i
pub prints_one_more : (hits : List History) (i : ℕ) (h : History) (text line : List ℕ)
    → i < length hits → h ≡ get_or hits i h → PrintsHits (histories_seen (take i hits)) text → IsHitLine (history_seen h) line
    → PrintsHits (histories_seen (take (i + 1) hits)) (text ++ line)
prints_one_more hits i h text line below at so_far is =
    rw (take_more hits i h below, sym at, map-append history_seen (take i hits) (h ∷ []))
    (prints-more (histories_seen (take i hits)) text (history_seen h) line so_far is)

-- a line that was put behind what stood, part by part
pub put_in_parts : (h : HistoryRecord) (old time exit command a b c d e new : List ℕ)
    → IsTimeText h.timestamp time → exit ≡ signed_decimal h.exit → command ≡ escaped h.command
    → a ≡ old ++ time → b ≡ a ++ 9 ∷ [] → c ≡ b ++ exit → d ≡ c ++ 9 ∷ [] → e ≡ d ++ command → new ≡ e ++ 10 ∷ []
    → (line : List ℕ) × IsHitLine h line × (new ≡ old ++ line)
put_in_parts h old time exit command a b c d e new is of_exit of_command of_a of_b of_c of_d of_e of_new =
    let x = signed_decimal h.exit in
    let s = escaped h.command in (
      time ++ 9 ∷ (x ++ 9 ∷ (s ++ 10 ∷ [])),
      (time, is, refl),
      rw (of_new, of_e, of_d, of_c, of_b, of_a, of_exit, of_command)
          (append_assoc (old ++ time ++ 9 ∷ [] ++ x ++ 9 ∷ []) s (10 ∷ [])
          ∙ append_assoc (old ++ time ++ 9 ∷ [] ++ x) (9 ∷ []) (s ++ 10 ∷ [])
          ∙ append_assoc (old ++ time ++ 9 ∷ []) x (9 ∷ (s ++ 10 ∷ []))
          ∙ append_assoc (old ++ time) (9 ∷ []) (x ++ 9 ∷ (s ++ 10 ∷ []))
          ∙ append_assoc old time (9 ∷ (x ++ 9 ∷ (s ++ 10 ∷ [])))),
    )
