-- A stream of frames goes on at its end, and is cut into frames in one way.
use Rattle.std.proofs.Common.{◌≡◌, ◌≢◌, ℕ, zero, suc, ◌+◌, ◌-◌, ◌<◌, ◌≤◌, ◌^◌, List, [], ◌∷◌, ◌++◌, length, take, drop, refl, sym, ap, subst, ◌∙◌, append_assoc, append-nil, arith, inl, inr, ◌⊎◌}
use Rattle.std.proofs.lemmas.Grind.{flat_map-append}
use Rattle.std.proofs.lemmas.List.{length-append, length-take, length-drop, take_at, drop_at, take-append-drop}
use Rattle.std.proofs.lemmas.List.Elements.{All-nil, All-cons}
use Rattle.std.proofs.lemmas.Bool.{cases_lt}
use Rattle.definitions.proofs.Bytes.{IsBytes-take, IsBytes-drop}
use Rattle.definitions.specs.Spelling.{IsBytes}
use Rattle.std.proofs.lemmas.Nat.{from_be_bytes-to_be_bytes_4, be_bytes_4}
use Rattle.std.specs.Int.{w32, to_be_bytes}
use Rattle.std.specs.List.{All}
use Rattle.definitions.specs.Limits.{most_payload_bytes}
use Rattle.definitions.specs.Frames.{frame, frames, named_length, NoWholeFrame, StreamEnding, whole_stream, cut_stream, long_stream, IsStreamEnding, StreamEnds, EndsStream, CutAfter}

pub frames-append : (payloads more : List (List ℕ)) → frames (payloads ++ more) ≡ frames payloads ++ frames more
frames-append payloads more = flat_map-append frame payloads more

pub frames-more : (payloads : List (List ℕ)) (payload : List ℕ) → frames (payloads ++ payload ∷ []) ≡ frames payloads ++ frame payload
frames-more payloads payload = frames-append payloads (payload ∷ []) ∙ ap (λ (xs : List ℕ). frames payloads ++ xs) (append-nil (frame payload))

-- ---- the first frame of a stream

-- no frame whose payload has at most this many bytes begins the rest
abbrev pub Stops : ℕ → List ℕ → Type 0
Stops limit rest = (length rest < 4 + named_length rest) ⊎ (limit < named_length rest)

named_at : (payload rest : List ℕ) → length payload < 2 ^ 32 → named_length (frame payload ++ rest) ≡ length payload
named_at payload rest short = from_be_bytes-to_be_bytes_4 (length payload) short

length_at : (payload rest : List ℕ) → length (frame payload ++ rest) ≡ 4 + length payload + length rest
length_at payload rest = simp (length-append) (omega arith)

pub never_both : (limit : ℕ) (payload more rest : List ℕ) → limit < 2 ^ 32 → length payload ≤ limit → Stops limit rest → rest ≡ frame payload ++ more → ⊥
never_both limit payload more rest small short stops e =
    let n : named_length rest ≡ length payload = ap named_length e ∙ named_at payload more (omega arith) in
    let l : length rest ≡ 4 + length payload + length more = ap (λ (xs : List ℕ). length xs) e ∙ length_at payload more in
    grind arith

-- two frames that begin one stream are one
pub same_first : (p q more others : List ℕ) → length p < 2 ^ 32 → length q < 2 ^ 32 → frame p ++ more ≡ frame q ++ others → (p ≡ q) × (more ≡ others)
same_first p q more others p_short q_short e =
    let n : length p ≡ length q = sym (named_at p more p_short) ∙ ap named_length e ∙ named_at q others q_short in
    let behind : p ++ more ≡ q ++ others = ap (λ (xs : List ℕ). drop 4 xs) e in (
      sym (take_at p more (length p) refl) ∙ ap (λ (xs : List ℕ). take (length p) xs) behind ∙ take_at q others (length p) (sym n),
      sym (drop_at p more (length p) refl) ∙ ap (λ (xs : List ℕ). drop (length p) xs) behind ∙ drop_at q others (length p) (sym n),
    )

-- a stream is cut in one way: frames of payloads within a limit, and a rest that no such frame begins
one_cut : (limit : ℕ) (ps qs : List (List ℕ)) (rest others : List ℕ) → limit < 2 ^ 32 → All (λ (p : List ℕ). length p ≤ limit) ps → All (λ (p : List ℕ). length p ≤ limit) qs → Stops limit rest → Stops limit others
    → frames ps ++ rest ≡ frames qs ++ others → (ps ≡ qs) × (rest ≡ others)
one_cut limit [] [] rest others small ps_short qs_short rest_stops others_stop e = (refl, e)
one_cut limit [] (q ∷ qs) rest others small ps_short qs_short rest_stops others_stop e =
    absurd (never_both limit q (frames qs ++ others) rest small (qs_short 0 [] (omega arith)) rest_stops (e ∙ append_assoc (frame q) (frames qs) others))
one_cut limit (p ∷ ps) [] rest others small ps_short qs_short rest_stops others_stop e =
    absurd (never_both limit p (frames ps ++ rest) others small (ps_short 0 [] (omega arith)) others_stop (sym e ∙ append_assoc (frame p) (frames ps) rest))
one_cut limit (p ∷ ps) (q ∷ qs) rest others small ps_short qs_short rest_stops others_stop e =
    let p_fits : length p ≤ limit = ps_short 0 [] (omega arith) in
    let q_fits : length q ≤ limit = qs_short 0 [] (omega arith) in
    let joined : frame p ++ (frames ps ++ rest) ≡ frame q ++ (frames qs ++ others) = sym (append_assoc (frame p) (frames ps) rest) ∙ e ∙ append_assoc (frame q) (frames qs) others in
    let one = same_first p q (frames ps ++ rest) (frames qs ++ others) (omega arith) (omega arith) joined in
    let others_are = one_cut limit ps qs rest others small (λ k d lt. ps_short (suc k) d (omega arith)) (λ k d lt. qs_short (suc k) d (omega arith)) rest_stops others_stop one.1 in
    (ap (λ (x : List ℕ). x ∷ ps) one.0 ∙ ap (λ (xs : List (List ℕ)). q ∷ xs) others_are.0, others_are.1)

Stops-NoWholeFrame : (limit : ℕ) (rest : List ℕ) → NoWholeFrame rest → Stops limit rest
Stops-NoWholeFrame limit rest (inl short) = inl (omega arith)
Stops-NoWholeFrame limit rest (inr cut) = inl cut

pub frames-one_cut : (ps qs : List (List ℕ)) (rest others : List ℕ) → All (λ (p : List ℕ). length p < 2 ^ 32) ps → All (λ (p : List ℕ). length p < 2 ^ 32) qs → NoWholeFrame rest → NoWholeFrame others
    → frames ps ++ rest ≡ frames qs ++ others → (ps ≡ qs) × (rest ≡ others)
frames-one_cut ps qs rest others ps_short qs_short rest_cut others_cut e =
    one_cut (2 ^ 32 - 1) ps qs rest others (omega arith) (λ k d lt. let h = ps_short k d lt in omega arith) (λ k d lt. let h = qs_short k d lt in omega arith)
    (Stops-NoWholeFrame _ rest rest_cut) (Stops-NoWholeFrame _ others others_cut) e

-- ---- whole inputs

pub stops_at : (ending : StreamEnding) (rest : List ℕ) → IsStreamEnding ending rest → Stops most_payload_bytes rest
stops_at whole_stream rest e = inl (let none : length rest ≡ 0 = ap (λ (xs : List ℕ). length xs) e in omega arith)
stops_at cut_stream rest c = Stops-NoWholeFrame most_payload_bytes rest c.cut
stops_at long_stream rest l = inr l.long

one_ending : (a b : StreamEnding) (rest : List ℕ) → IsStreamEnding a rest → IsStreamEnding b rest → a ≡ b
one_ending whole_stream whole_stream rest x y = refl
one_ending whole_stream cut_stream rest x y = absurd (y.some x)
one_ending whole_stream long_stream rest x y = absurd (let none : length rest ≡ 0 = ap (λ (xs : List ℕ). length xs) x in let four = y.head in omega arith)
one_ending cut_stream whole_stream rest x y = absurd (x.some y)
one_ending cut_stream cut_stream rest x y = refl
one_ending cut_stream long_stream rest x y = absurd (let s = x.short y.head in let l = y.long in omega arith)
one_ending long_stream whole_stream rest x y = absurd (let none : length rest ≡ 0 = ap (λ (xs : List ℕ). length xs) y in let four = x.head in omega arith)
one_ending long_stream cut_stream rest x y = absurd (let s = y.short x.head in let l = x.long in omega arith)
one_ending long_stream long_stream rest x y = refl

-- what a whole input spells, and how it ends, is determined by its bytes
pub StreamEnds-one : (bytes : List ℕ) (ps qs : List (List ℕ)) (a b : StreamEnding) (x : StreamEnds bytes ps a) (y : StreamEnds bytes qs b) → (ps ≡ qs) × (a ≡ b) × (x.rest ≡ y.rest)
StreamEnds-one bytes ps qs a b x y =
    let cut = one_cut most_payload_bytes ps qs x.rest y.rest (omega arith) x.short y.short (stops_at a x.rest x.ends) (stops_at b y.rest y.ends) (sym x.are ∙ y.are) in
    (cut.0, one_ending a b x.rest x.ends (subst (λ (xs : List ℕ). IsStreamEnding b xs) (sym cut.1) y.ends), cut.1)

-- the first frame of bytes that begin with a whole one
first_frame : (bytes : List ℕ) → IsBytes bytes → 4 ≤ length bytes → 4 + named_length bytes ≤ length bytes → (payload : List ℕ) × (rest : List ℕ) × (length payload ≡ named_length bytes) × IsBytes rest × (bytes ≡ frame payload ++ rest)
first_frame bytes are four whole =
    let n = named_length bytes in
    let behind = drop 4 bytes in
    let head : to_be_bytes w32 n ≡ take 4 bytes = be_bytes_4 (take 4 bytes) n (omega (arith, length-take 4 bytes)) (IsBytes-take 4 bytes are) refl in
    let l : length (take n behind) ≡ n = omega (arith, length-take n behind, length-drop 4 bytes) in
    let parts : bytes ≡ to_be_bytes w32 n ++ (take n behind ++ drop n behind) =
    sym (take-append-drop 4 bytes) ∙ ap (λ (x : List ℕ). x ++ behind) (sym head) ∙ ap (λ (x : List ℕ). to_be_bytes w32 n ++ x) (sym (take-append-drop n behind)) in
    let named : bytes ≡ to_be_bytes w32 (length (take n behind)) ++ (take n behind ++ drop n behind) = subst (λ (k : ℕ). bytes ≡ to_be_bytes w32 k ++ (take n behind ++ drop n behind)) (sym l) parts in
    (take n behind, drop n behind, l, IsBytes-drop n behind (IsBytes-drop 4 bytes are), named ∙ sym (append_assoc (to_be_bytes w32 (length (take n behind))) (take n behind) (drop n behind)))

ends_at : (bytes : List ℕ) (ending : StreamEnding) → IsStreamEnding ending bytes → (payloads : List (List ℕ)) × (ending : StreamEnding) × StreamEnds bytes payloads ending
ends_at bytes ending e = ([], ending, record { rest = bytes; short = All-nil (λ (p : List ℕ). length p ≤ most_payload_bytes); are = refl; ends = e })

more_ends : (payload bytes : List ℕ) (payloads : List (List ℕ)) (ending : StreamEnding) → length payload ≤ most_payload_bytes → StreamEnds bytes payloads ending → StreamEnds (frame payload ++ bytes) (payload ∷ payloads) ending
more_ends payload bytes payloads ending short s =
    record {
      rest = s.rest;
      short = All-cons (λ (p : List ℕ). length p ≤ most_payload_bytes) payload payloads short s.short;
      are = ap (λ (x : List ℕ). frame payload ++ x) s.are ∙ sym (append_assoc (frame payload) (frames payloads) s.rest);
      ends = s.ends;
    }

stream_within : (most : ℕ) (bytes : List ℕ) → length bytes ≤ most → IsBytes bytes → (payloads : List (List ℕ)) × (ending : StreamEnding) × StreamEnds bytes payloads ending
stream_within most [] le are = ends_at [] whole_stream refl
stream_within zero (b ∷ bytes) le are = absurd (omega arith)
stream_within (suc most) (b ∷ bytes) le are =
    let all = b ∷ bytes in
    let some : all ≢ [] = λ e. absurd cc in
    elim (cases_lt (length all) 4) [
      | inl few ↦ ends_at all cut_stream (record { some = some; cut = inl few; short = λ four. absurd (omega arith) })
      | inr four ↦ elim (cases_lt most_payload_bytes (named_length all)) [
        | inl long ↦ ends_at all long_stream (record { head = four; long = long })
        | inr short ↦ elim (cases_lt (length all) (4 + named_length all)) [
          | inl cut ↦ ends_at all cut_stream (record { some = some; cut = inr cut; short = λ _. short })
          | inr whole ↦
              let f = first_frame all are four whole in
              let l : length all ≡ 4 + length f.0 + length f.1 = ap (λ (x : List ℕ). length x) f.4 ∙ length_at f.0 f.1 in
              let fits : length f.1 ≤ most = omega arith in
              let more = stream_within most f.1 fits f.3 in
              let payload_fits : length f.0 ≤ most_payload_bytes = let n = f.2 in omega arith in
              (f.0 ∷ more.0, more.1, subst (λ (x : List ℕ). StreamEnds x (f.0 ∷ more.0) more.1) (sym f.4) (more_ends f.0 f.1 more.0 more.1 payload_fits more.2))
        ]
      ]
    ]

-- each input is frames and ends in some way
pub StreamEnds-some : (bytes : List ℕ) → IsBytes bytes → (payloads : List (List ℕ)) × (ending : StreamEnding) × StreamEnds bytes payloads ending
StreamEnds-some bytes are = stream_within (length bytes) bytes (omega arith) are

-- ---- inputs of which a number of frames is read at most

stops_where : (rest : List ℕ) → EndsStream rest → Stops most_payload_bytes rest
stops_where rest (inl none) = stops_at whole_stream rest none
stops_where rest (inr (inl cut)) = stops_at cut_stream rest cut
stops_where rest (inr (inr long)) = stops_at long_stream rest long

CutAfter-tail : (limit : ℕ) (p : List ℕ) (ps : List (List ℕ)) (rest : List ℕ) → CutAfter limit (p ∷ ps) rest → CutAfter (limit - 1) ps rest
CutAfter-tail limit p ps rest c = record {
  short = λ k d lt. c.short (suc k) d (omega arith);
  few = omega (arith, c.few);
  ends = elim c.ends as (λ _. (length ps ≡ limit - 1) ⊎ EndsStream rest) [
    | inl full ↦ inl (omega (arith, full))
    | inr stops ↦ inr stops
  ];
}

-- the cut that is made at most after this many frames
pub CutAfter-one : (limit : ℕ) (ps qs : List (List ℕ)) (rest others : List ℕ) → CutAfter limit ps rest → CutAfter limit qs others → frames ps ++ rest ≡ frames qs ++ others → (ps ≡ qs) × (rest ≡ others)
CutAfter-one limit [] [] rest others a b e = (refl, e)
CutAfter-one limit [] (q ∷ qs) rest others a b e =
    absurd (elim a.ends [
      | inl full ↦ omega (arith, b.few, full)
      | inr stops ↦ never_both most_payload_bytes q (frames qs ++ others) rest (omega arith) (b.short 0 [] (omega arith)) (stops_where rest stops) (e ∙ append_assoc (frame q) (frames qs) others)
    ])
CutAfter-one limit (p ∷ ps) [] rest others a b e =
    absurd (elim b.ends [
      | inl full ↦ omega (arith, a.few, full)
      | inr stops ↦ never_both most_payload_bytes p (frames ps ++ rest) others (omega arith) (a.short 0 [] (omega arith)) (stops_where others stops) (sym e ∙ append_assoc (frame p) (frames ps) rest)
    ])
CutAfter-one limit (p ∷ ps) (q ∷ qs) rest others a b e =
    let p_fits : length p ≤ most_payload_bytes = a.short 0 [] (omega arith) in
    let q_fits : length q ≤ most_payload_bytes = b.short 0 [] (omega arith) in
    let joined : frame p ++ (frames ps ++ rest) ≡ frame q ++ (frames qs ++ others) = sym (append_assoc (frame p) (frames ps) rest) ∙ e ∙ append_assoc (frame q) (frames qs) others in
    let one = same_first p q (frames ps ++ rest) (frames qs ++ others) (omega arith) (omega arith) joined in
    let others_are = CutAfter-one (limit - 1) ps qs rest others (CutAfter-tail limit p ps rest a) (CutAfter-tail limit q qs others b) one.1 in
    (ap (λ (x : List ℕ). x ∷ ps) one.0 ∙ ap (λ (xs : List (List ℕ)). q ∷ xs) others_are.0, others_are.1)

-- an input is cut at its end, or behind as many of its frames as are read
ending_stops : (ending : StreamEnding) (rest : List ℕ) → IsStreamEnding ending rest → EndsStream rest
ending_stops whole_stream rest none = inl none
ending_stops cut_stream rest cut = inr (inl cut)
ending_stops long_stream rest long = inr (inr long)

first_frames : (limit : ℕ) (payloads : List (List ℕ)) (rest : List ℕ) → All (λ (p : List ℕ). length p ≤ most_payload_bytes) payloads → EndsStream rest
    → (front : List (List ℕ)) × (behind : List ℕ) × CutAfter limit front behind × (frames payloads ++ rest ≡ frames front ++ behind)
first_frames limit [] rest short ends = ([], rest, record { short = short; few = omega arith; ends = inr ends }, refl)
first_frames zero (p ∷ ps) rest short ends = ([], frames (p ∷ ps) ++ rest, record { short = All-nil (λ (p : List ℕ). length p ≤ most_payload_bytes); few = omega arith; ends = inl refl }, refl)
first_frames (suc limit) (p ∷ ps) rest short ends =
    let more = first_frames limit ps rest (λ k d lt. short (suc k) d (omega arith)) ends in
    let cut = more.2 in (
      p ∷ more.0,
      more.1,
      record {
        short = All-cons (λ (p : List ℕ). length p ≤ most_payload_bytes) p more.0 (short 0 [] (omega arith)) cut.short;
        few = let few = cut.few in omega arith;
        ends = elim cut.ends as (λ _. (length (p ∷ more.0) ≡ suc limit) ⊎ EndsStream more.1) [
          | inl full ↦ inl (omega (arith, full))
          | inr stops ↦ inr stops
        ];
      },
      append_assoc (frame p) (frames ps) rest ∙ ap (λ (x : List ℕ). frame p ++ x) more.3 ∙ sym (append_assoc (frame p) (frames more.0) more.1),
    )

pub CutAfter-some : (limit : ℕ) (bytes : List ℕ) → IsBytes bytes → (payloads : List (List ℕ)) × (rest : List ℕ) × CutAfter limit payloads rest × (bytes ≡ frames payloads ++ rest)
CutAfter-some limit bytes are =
    let whole = StreamEnds-some bytes are in
    let ends = whole.2 in
    let cut = first_frames limit whole.0 ends.rest ends.short (ending_stops whole.1 ends.rest ends.ends) in
    (cut.0, cut.1, cut.2, ends.are ∙ cut.3)
