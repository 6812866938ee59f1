-- The next records of a chain are taken whole.
use Rattle.std.proofs.Common.{◌≡◌, ℕ, suc, ◌+◌, ◌<◌, ◌≤◌, Bool, true, false, not, ◌&&◌, ◌||◌, cond, List, [], ◌∷◌, ◌++◌, length, map, filter, Some, None, Ok, refl, sym, ◌∙◌, ap, subst, arith, append_assoc}
use Rattle.std.specs.Prelude.{find, option_map, slice_get, ◌==◌}
use Rattle.std.specs.List.{list_any, AllByRecursion}
use Rattle.std.specs.Option.{option_or}
use Rattle.std.proofs.lemmas.Bool.{true≢false, or_from, eq-eqb, ne_eqb}
use Rattle.std.proofs.lemmas.List.{append-nil, map-append, length_push}
use Rattle.std.proofs.lemmas.List.Elements.{filter-append}
use Rattle.record_rules.specs.Records.{SealedRecord, Caller, Entry, Taken, record_weight}
use Rattle.record_rules.specs.Journal.{own_events, records_of, in_place, chain, IsNumbered, TotalsFit, held_of, limit_passed}
use Rattle.record_rules.specs.Growth.{PageGap, PageFull, same_place, fresh_of, GoOn, too_long_at, first_too_long, forked_by, forked_at, wanted_idx, gap_at, full_at, refusal_at, first_refusal, taken_entry, batch_or, grow}
use Rattle.record_rules.proofs.Options.{option_or_none}
use Rattle.record_rules.proofs.Spots.{in_place-from}
use Rattle.record_rules.proofs.Prefixes.{held_last, held_prefix}
use Rattle.record_rules.proofs.Growth.{fresh_of-push}

-- the records of the place are all below this idx
abbrev Below : ℕ → List ℕ → ℕ → List SealedRecord → Type 0
Below host tag idx records = AllByRecursion (λ r. r.idx < idx) (filter (in_place host tag) records)

all_raised : (low high : ℕ) (records : List SealedRecord) → low ≤ high → AllByRecursion (λ (r : SealedRecord). r.idx < low) records → AllByRecursion (λ (r : SealedRecord). r.idx < high) records
all_raised low high [] le all = tt
all_raised low high (x ∷ records) le all = (let h = all.0 in omega arith, all_raised low high records le all.1)

numbered_below : (from : ℕ) (records : List SealedRecord) → ((k : ℕ) (r : SealedRecord) → slice_get records k ≡ Some r → r.idx ≡ from + k) → AllByRecursion (λ (r : SealedRecord). r.idx < from + length records) records
numbered_below from [] numbered = tt
numbered_below from (r ∷ records) numbered =
    let first : r.idx ≡ from + 0 = numbered 0 r refl in
    let rest = numbered_below (from + 1) records (λ k x at. numbered (suc k) x at ∙ (omega arith)) in
    (omega (arith, first), all_raised (from + 1 + length records) (from + suc (length records)) records (omega arith) rest)

all_more : (P : SealedRecord → Type 0) (records : List SealedRecord) (r : SealedRecord) → AllByRecursion P records → P r → AllByRecursion P (records ++ r ∷ [])
all_more P [] r all here = (here, tt)
all_more P (x ∷ records) r all here = (all.0, all_more P records r all.1 here)

-- a record at or above that idx has no holder
none_there : (records : List SealedRecord) (r : SealedRecord) (idx : ℕ) → Below r.host r.tag idx records → idx ≤ r.idx → list_any (same_place r) records ≡ false
none_there [] r idx below above = refl
none_there (x ∷ records) r idx below above =
    elim (in_place r.host r.tag x) as (λ b. AllByRecursion (λ (y : SealedRecord). y.idx < idx) (cond b (x ∷ filter (in_place r.host r.tag) records) (filter (in_place r.host r.tag) records)) → ((b && (x.idx == r.idx)) || list_any (same_place r) records) ≡ false) [
      | true ↦ λ inside. or_from (x.idx == r.idx) (list_any (same_place r) records) (ne_eqb x.idx r.idx (λ same. let low : x.idx < idx = inside.0 in omega arith)) (none_there records r idx inside.1 above)
      | false ↦ λ outside. none_there records r idx outside above
    ] below

pub find_none : (p : SealedRecord → Bool) (records : List SealedRecord) → list_any p records ≡ false → find p records ≡ None
find_none p [] none = refl
find_none p (x ∷ records) none =
    elim (p x) as (λ b. (b || list_any p records) ≡ false → cond b (Some x) (find p records) ≡ None) [
      | true ↦ λ h. absurd (true≢false h)
      | false ↦ λ rest. find_none p records rest
    ] none

module _ (journal : List Entry) (caller : Caller) (owner host : ℕ) (tag : List ℕ) where
  -- how long the chain is
  abbrev before : ℕ
  before = length (chain journal owner host tag)

  abbrev held_records : List SealedRecord
  held_records = records_of (own_events journal owner)

  -- what holds of the positions before
  record Ahead (earlier : List SealedRecord) : Type 0 where
    below : AllByRecursion (λ (r : SealedRecord). r.idx < before + length earlier) (filter (in_place host tag) (held_records ++ earlier))
    fresh : fresh_of held_records earlier ≡ earlier
    inside : filter (in_place host tag) earlier ≡ earlier

  -- what holds of the next position
  record Next (earlier : List SealedRecord) (r : SealedRecord) : Type 0 where
    host_is : r.host ≡ host
    tag_is : r.tag ≡ tag
    idx_is : r.idx ≡ before + length earlier

  next_is_fresh : (earlier : List SealedRecord) (r : SealedRecord) → Ahead earlier → Next earlier r → list_any (same_place r) (held_records ++ earlier) ≡ false
  next_is_fresh earlier r ahead next =
      let at : Below r.host r.tag (before + length earlier) (held_records ++ earlier) = subst (λ h. Below h r.tag (before + length earlier) (held_records ++ earlier)) (sym next.host_is) (subst (λ t. Below host t (before + length earlier) (held_records ++ earlier)) (sym next.tag_is) ahead.below) in
      none_there (held_records ++ earlier) r (before + length earlier) at (let idx = next.idx_is in omega arith)

  one_by_one : (earlier : List SealedRecord) (r : SealedRecord) (rest : List SealedRecord) → own_events journal owner ++ map (Taken owner) (earlier ++ r ∷ rest) ≡ ((own_events journal owner ++ map (Taken owner) earlier) ++ Taken owner r ∷ []) ++ map (Taken owner) rest
  one_by_one earlier r rest =
      let owned = own_events journal owner in
      let prefix = map (Taken owner) earlier in
      ap (λ events. own_events journal owner ++ events) (map-append (Taken owner) earlier (r ∷ rest)) ∙ sym (append_assoc owned prefix (Taken owner r ∷ map (Taken owner) rest)) ∙ sym (append_assoc (owned ++ prefix) (Taken owner r ∷ []) (map (Taken owner) rest))

  next_accepted : (earlier : List SealedRecord) (r : SealedRecord) (rest : List SealedRecord) → Ahead earlier → Next earlier r → too_long_at earlier r ≡ None → TotalsFit (held_of (own_events journal owner ++ map (Taken owner) (earlier ++ r ∷ rest))) → refusal_at owner (own_events journal owner) earlier r ≡ None
  next_accepted earlier r rest ahead next short room =
      let owned = own_events journal owner in
      let none = next_is_fresh earlier r ahead next in
      let forked : forked_at owned earlier r ≡ None = ap (forked_by (length earlier) r) (find_none (same_place r) (held_records ++ earlier) none) in
      let counted : wanted_idx owned earlier r ≡ before + length earlier = (λ i. length (filter (in_place (next.host_is i) (next.tag_is i)) held_records) + length (filter (in_place (next.host_is i) (next.tag_is i)) (ahead.fresh i))) ∙ ap (λ rs. before + length rs) ahead.inside in
      let wanted = eq-eqb r.idx (wanted_idx owned earlier r) (next.idx_is ∙ sym counted) in
      let gap : gap_at owned earlier r ≡ None = λ i. cond (not (none i) && not (wanted i)) (Some (PageGap (length earlier) (wanted_idx owned earlier r))) None in
      let here : TotalsFit (held_of ((own_events journal owner ++ map (Taken owner) earlier) ++ Taken owner r ∷ [])) = held_prefix ((own_events journal owner ++ map (Taken owner) earlier) ++ Taken owner r ∷ []) (map (Taken owner) rest) (subst (λ all. TotalsFit (held_of all)) (one_by_one earlier r rest) room) in
      let full : full_at owner owned earlier r ≡ None = (λ i. cond (not (none i)) (option_map PageFull (limit_passed (own_events journal owner ++ map (Taken owner) (ahead.fresh i)) (record_weight r) (Some (record { host = r.host; tag = r.tag })))) None) ∙ ap (option_map PageFull) (held_last (own_events journal owner ++ map (Taken owner) earlier) (Taken owner r) here) in
      λ i. option_or (short i) (option_or (forked i) (option_or (gap i) (full i)))

  ahead_more : (earlier : List SealedRecord) (r : SealedRecord) → Ahead earlier → Next earlier r → Ahead (earlier ++ r ∷ [])
  ahead_more earlier r ahead next =
      let none = next_is_fresh earlier r ahead next in
      let here = in_place-from host tag r (record { host_is = next.host_is; tag_is = next.tag_is }) in
      let grows : filter (in_place host tag) (held_records ++ (earlier ++ r ∷ [])) ≡ filter (in_place host tag) (held_records ++ earlier) ++ r ∷ [] = ap (filter (in_place host tag)) (sym (append_assoc held_records earlier (r ∷ []))) ∙ filter-append (in_place host tag) (held_records ++ earlier) (r ∷ []) ∙ ap (λ b. filter (in_place host tag) (held_records ++ earlier) ++ cond b (r ∷ []) []) here in
      let longer : length (earlier ++ r ∷ []) ≡ length earlier + 1 = length_push earlier r in
      let Low = λ (x : SealedRecord). x.idx < before + length (earlier ++ r ∷ []) in
      let idx = next.idx_is in
      record {
        below = subst (AllByRecursion Low) (sym grows) (all_more Low (filter (in_place host tag) (held_records ++ earlier)) r (all_raised (before + length earlier) (before + length (earlier ++ r ∷ [])) (filter (in_place host tag) (held_records ++ earlier)) (omega (arith, longer)) ahead.below) (omega (arith, longer, idx)));
        fresh = fresh_of-push held_records earlier r ∙ (λ i. ahead.fresh i ++ cond (not (none i)) (r ∷ []) []);
        inside = filter-append (in_place host tag) earlier (r ∷ []) ∙ (λ i. ahead.inside i ++ cond (here i) (r ∷ []) []);
      }

  all_accepted : (earlier records : List SealedRecord) → Ahead earlier → GoOn host tag (before + length earlier) records → first_too_long earlier records ≡ None → TotalsFit (held_of (own_events journal owner ++ map (Taken owner) (earlier ++ records))) → (first_refusal owner (own_events journal owner) earlier records ≡ None) × (fresh_of held_records (earlier ++ records) ≡ earlier ++ records)
  all_accepted earlier [] ahead go_on short room = (refl, ap (fresh_of held_records) (append-nil earlier) ∙ ahead.fresh ∙ sym (append-nil earlier))
  all_accepted earlier (r ∷ records) ahead go_on short room =
      let parts = option_or_none (too_long_at earlier r) (first_too_long (earlier ++ r ∷ []) records) short in
      let next : Next earlier r = record { host_is = go_on.0; tag_is = go_on.1; idx_is = go_on.2 } in
      let accepted = next_accepted earlier r records ahead next parts.0 room in
      let longer : before + length earlier + 1 ≡ before + length (earlier ++ r ∷ []) = (let e = length_push earlier r in omega (arith, e)) in
      let later = all_accepted (earlier ++ r ∷ []) records (ahead_more earlier r ahead next) (subst (λ idx. GoOn host tag idx records) longer go_on.3) parts.1 (subst (λ all. TotalsFit (held_of (own_events journal owner ++ map (Taken owner) all))) (sym (append_assoc earlier (r ∷ []) records)) room) in
      (λ i. option_or (accepted i) (later.0 i), subst (λ all. fresh_of held_records all ≡ all) (append_assoc earlier (r ∷ []) records) later.1)

  pub next_page_is_taken : (records : List SealedRecord) → IsNumbered (chain journal owner host tag) → GoOn host tag (length (chain journal owner host tag)) records → first_too_long [] records ≡ None → TotalsFit (held_of (own_events journal owner ++ map (Taken owner) records)) → grow journal caller owner records ≡ Ok (map (taken_entry caller owner) records)
  next_page_is_taken records numbered go_on short room =
      let chained = chain journal owner host tag in
      let low : AllByRecursion (λ (r : SealedRecord). r.idx < before + length {A = SealedRecord} []) (filter (in_place host tag) (held_records ++ [])) = subst (λ all. AllByRecursion (λ (r : SealedRecord). r.idx < before + length {A = SealedRecord} []) (filter (in_place host tag) all)) (sym (append-nil held_records)) (all_raised (0 + before) (before + length {A = SealedRecord} []) (chain journal owner host tag) (omega arith) (numbered_below 0 (chain journal owner host tag) (λ k r at. numbered k r at ∙ omega arith))) in
      let start : GoOn host tag (before + length {A = SealedRecord} []) records = subst (λ idx. GoOn host tag idx records) (omega arith) go_on in
      let done = all_accepted [] records (record { below = low; fresh = refl; inside = refl }) start short room in
      λ i. batch_or (map (taken_entry caller owner) (done.1 i)) (done.0 i)
