-- The order of a gap and of want of room.
use Rattle.std.proofs.Common.{◌≡◌, ◌≢◌, ℕ, ◌+◌, true, false, not, ◌&&◌, cond, List, [], ◌∷◌, ◌++◌, length, map, Some, None, Err, ◌∙◌, ap, arith}
use Rattle.std.specs.Prelude.{option_map, nat_lt, ◌==◌}
use Rattle.std.specs.List.{list_any}
use Rattle.std.specs.Option.{option_or}
use Rattle.std.proofs.lemmas.Bool.{not-true, eq-eqb, ne_eqb}
use Rattle.std.proofs.lemmas.List.{append-nil}
use Rattle.definitions.specs.Limits.{most_entries}
use Rattle.record_rules.specs.Records.{SealedRecord, Caller, Entry, record_weight}
use Rattle.record_rules.specs.Journal.{own_events, records_of, chain, weight_passed, places_passed}
use Rattle.record_rules.specs.Growth.{PageRefusal, PageGap, PageFull, same_place, is_fresh, fresh_of, too_long_at, forked_by, forked_at, wanted_idx, gap_at, owned_with, full_at, refusal_at, taken_entry, batch_or, grow}
use Rattle.record_rules.proofs.NextPage.{find_none}

module _ (journal : List Entry) (caller : Caller) (owner : ℕ) (r : SealedRecord) (short : too_long_at [] r ≡ None) (fresh : is_fresh (records_of (own_events journal owner)) r ≡ true) where
  abbrev records : List SealedRecord
  records = records_of (own_events journal owner)

  abbrev next : ℕ
  next = length (chain journal owner r.host r.tag)

  -- nothing holds the record's spot
  spot_free : list_any (same_place r) (records ++ []) ≡ false
  spot_free = ap (list_any (same_place r)) (append-nil records) ∙ not-true (list_any (same_place r) records) fresh

  unforked : forked_at (own_events journal owner) [] r ≡ None
  unforked = ap (forked_by 0 r) (find_none (same_place r) (records ++ []) spot_free)

  wanted : wanted_idx (own_events journal owner) [] r ≡ next
  wanted = omega arith

  answered : (refusal : PageRefusal) → option_or (gap_at (own_events journal owner) [] r) (full_at owner (own_events journal owner) [] r) ≡ Some refusal → grow journal caller owner (r ∷ []) ≡ Err refusal
  answered refusal here =
      let at : refusal_at owner (own_events journal owner) [] r ≡ Some refusal = λ i. option_or (short i) (option_or (unforked i) (here i)) in
      ap (λ o. batch_or (map (taken_entry caller owner) (fresh_of records (r ∷ []))) (option_or o None)) at

  pub gap_is_told : r.idx ≢ next → grow journal caller owner (r ∷ []) ≡ Err (PageGap 0 next)
  gap_is_told differ =
      let other : (r.idx == wanted_idx (own_events journal owner) [] r) ≡ false = ap (λ n. r.idx == n) wanted ∙ ne_eqb r.idx next differ in
      answered (PageGap 0 next) (λ i. option_or (cond (not (spot_free i) && not (other i)) (Some (PageGap 0 (wanted i))) None) (full_at owner (own_events journal owner) [] r))

  pub full_is_told : length (own_events journal owner) ≡ 4000000 → r.idx ≡ next → grow journal caller owner (r ∷ []) ≡ Err (PageFull (record { what = 1; held = 4000000 }))
  full_is_told many same =
      let here : (r.idx == wanted_idx (own_events journal owner) [] r) ≡ true = ap (λ n. r.idx == n) wanted ∙ eq-eqb r.idx next same in
      let held : length (owned_with owner (own_events journal owner) []) ≡ 4000000 = ap length (append-nil (own_events journal owner)) ∙ many in
      answered (PageFull (record { what = 1; held = 4000000 })) (λ i. option_or (cond (not (spot_free i) && not (here i)) (Some (PageGap 0 (wanted_idx (own_events journal owner) [] r))) None) (cond (not (spot_free i)) (option_map PageFull (option_or (cond (nat_lt most_entries (held i + 1)) (Some (record { what = 1; held = held i })) None) (option_or (weight_passed (owned_with owner (own_events journal owner) []) (record_weight r)) (places_passed (owned_with owner (own_events journal owner) []) (Some (record { host = r.host; tag = r.tag })))))) None))
