-- How far a chain reaches when a page of it was taken.
use Rattle.std.proofs.Common.{◌≡◌, ℕ, zero, suc, ◌+◌, ◌<◌, ◌≤◌, Some, None, List, [], ◌∷◌, length, take, drop, min, refl, sym, ◌∙◌, subst, arith}
use Rattle.std.specs.Prelude.{All, Option, option_map, ◌==◌}
use Rattle.std.proofs.lemmas.Bool.{eqb-true, and_parts}
use Rattle.std.proofs.lemmas.Option.{none-some, slice_get_within}
use Rattle.definitions.specs.Limits.{most_page_records}
use Rattle.record_rules.specs.Records.{SealedRecord, Entry}
use Rattle.record_rules.specs.Journal.{own_events, records_of, in_place, chain, IsNumbered}
use Rattle.record_rules.specs.Growth.{GoOn, same_place, holder, IsHeld}
use Rattle.record_rules.specs.Answers.{page}
use Rattle.record_rules.proofs.Members.{Has-kept, place_of_Has, find_has}
use Rattle.record_rules.proofs.Pages.{page_is_longest}

-- ---- records that go on

goes_on_behind : (host : ℕ) (tag : List ℕ) (idx k : ℕ) (records : List SealedRecord) → GoOn host tag idx records → GoOn host tag (idx + k) (drop k records)
goes_on_behind host tag idx zero records go_on = subst (λ n. GoOn host tag n records) (omega arith) go_on
goes_on_behind host tag idx (suc k) [] go_on = tt
goes_on_behind host tag idx (suc k) (r ∷ records) go_on = subst (λ n. GoOn host tag n (drop k records)) (omega arith) (goes_on_behind host tag (idx + 1) k records go_on.3)

goes_on_prefix : (host : ℕ) (tag : List ℕ) (idx k : ℕ) (records : List SealedRecord) → GoOn host tag idx records → GoOn host tag idx (take k records)
goes_on_prefix host tag idx zero records go_on = tt
goes_on_prefix host tag idx (suc k) [] go_on = tt
goes_on_prefix host tag idx (suc k) (r ∷ records) go_on = (go_on.0, go_on.1, go_on.2, goes_on_prefix host tag (idx + 1) k records go_on.3)

-- the records of a page begin with the idx that was asked for
pub page_goes_on : (journal : List Entry) (owner host : ℕ) (tag : List ℕ) (start count : ℕ) → GoOn host tag 0 (chain journal owner host tag) → GoOn host tag start (page journal owner host tag start count)
page_goes_on journal owner host tag start count go_on =
    let left = drop start (chain journal owner host tag) in
    let next = take (min count most_page_records) left in
    let behind : GoOn host tag start left = subst (λ n. GoOn host tag n left) (omega arith) (goes_on_behind host tag 0 start (chain journal owner host tag) go_on) in
    subst (GoOn host tag start) (sym (page_is_longest journal owner host tag start count).is_prefix) (goes_on_prefix host tag start (length (page journal owner host tag start count)) next (goes_on_prefix host tag start (min count most_page_records) left behind))

-- ---- records that stand

module _ (journal : List Entry) (owner : ℕ) where
  -- the idx of a record that stands is one of its chain
  stands_within : (r : SealedRecord) → IsNumbered (chain journal owner r.host r.tag) → IsHeld (records_of (own_events journal owner)) r → r.idx < length (chain journal owner r.host r.tag)
  stands_within r numbered stands = by (holder (records_of (own_events journal owner)) r) refl stands
    where
      by : (o : Option SealedRecord) → holder (records_of (own_events journal owner)) r ≡ o → option_map (λ (x : SealedRecord). x.id) o ≡ Some r.id → r.idx < length (chain journal owner r.host r.tag)
      by None found same = absurd (none-some r.id same)
      by (Some other) found same =
          let at = find_has (same_place r) (records_of (own_events journal owner)) other found in
          let parts = and_parts (in_place r.host r.tag other) (other.idx == r.idx) at.0 in
          let place = place_of_Has (chain journal owner r.host r.tag) other (Has-kept (in_place r.host r.tag) (records_of (own_events journal owner)) other at.1 parts.0) in
          let within : place.0 < length (chain journal owner r.host r.tag) = slice_get_within (chain journal owner r.host r.tag) place.0 other place.1 in
          subst (λ n. n < length (chain journal owner r.host r.tag)) (sym (numbered place.0 other place.1) ∙ eqb-true other.idx r.idx parts.1) within

  pub standing_reach : (host : ℕ) (tag : List ℕ) → IsNumbered (chain journal owner host tag) → (idx : ℕ) (records : List SealedRecord) → GoOn host tag idx records → All (IsHeld (records_of (own_events journal owner))) records → idx ≤ length (chain journal owner host tag)
      → idx + length records ≤ length (chain journal owner host tag)
  standing_reach host tag numbered idx [] go_on stand low = omega (arith, low)
  standing_reach host tag numbered idx (r ∷ records) go_on stand low =
      let here : r.idx < length (chain journal owner r.host r.tag) = stands_within r (subst (λ h. IsNumbered (chain journal owner h r.tag)) (sym go_on.0) (subst (λ t. IsNumbered (chain journal owner host t)) (sym go_on.1) numbered)) (stand 0 r (omega arith)) in
      let there : idx < length (chain journal owner host tag) = subst (λ n. n < length (chain journal owner host tag)) go_on.2 (subst (λ h. r.idx < length (chain journal owner h tag)) go_on.0 (subst (λ t. r.idx < length (chain journal owner r.host t)) go_on.1 here)) in
      let later : idx + 1 + length records ≤ length (chain journal owner host tag) = standing_reach host tag numbered (idx + 1) records go_on.3 (λ k x below. stand (suc k) x (omega (arith, below))) (omega (arith, there)) in
      omega (arith, later)
