-- The first limit that one more entry passes, by the totals of what is held.
use Rattle.std.proofs.Common.{◌≡◌, ℕ, suc, ◌+◌, ◌≤◌, ◌<◌, Bool, true, false, cond, List, [], ◌∷◌, ◌++◌, length, Option, Some, None, refl, sym, ◌∙◌, ap, arith}
use Rattle.std.specs.Prelude.{◌||◌, ◌==◌, filter, sum_by, nat_lt}
use Rattle.std.specs.List.{list_any}
use Rattle.std.specs.Option.{option_or}
use Rattle.std.proofs.lemmas.Bool.{lt-ltb, le-ltb, ne_eqb}
use Rattle.std.proofs.lemmas.List.{length_push}
use Rattle.std.proofs.lemmas.List.Sums.{sum_by_push}
use Rattle.record_rules.specs.Records.{SealedRecord, Event, Taken, event_weight, record_weight}
use Rattle.record_rules.specs.Journal.{ChainPlace, PassedLimit, Totals, held_of, records_of, in_place, places_of, places_added, limit_passed}
use Rattle.record_rules.proofs.Totals.{places_more}
use Rattle.chain_index.specs.Meaning.{totals_seen}
use Rattle.chain_index.specs.declared.owner.Held.{Held}
use Rattle.page_growth.specs.Limits.{AddsPlace, totals_with}

-- a place is new where its chain is empty
is_empty : (host : ℕ) (tag : List ℕ) (records : List SealedRecord) → cond {A = ℕ} (length (filter (in_place host tag) records) == 0) 1 0 ≡ cond (list_any (in_place host tag) records) 0 1
is_empty host tag [] = refl
is_empty host tag (r ∷ records) = by (in_place host tag r) (is_empty host tag records)
  where
    by : (b : Bool) → cond {A = ℕ} (length (filter (in_place host tag) records) == 0) 1 0 ≡ cond (list_any (in_place host tag) records) 0 1
        → cond {A = ℕ} (length (cond b (r ∷ filter (in_place host tag) records) (filter (in_place host tag) records)) == 0) 1 0 ≡ cond (b || list_any (in_place host tag) records) 0 1
    by true h = ap (λ (b : Bool). cond {A = ℕ} b 1 0) (ne_eqb (suc (length (filter (in_place host tag) records))) 0 (λ e. absurd (omega (arith, e))))
    by false h = h

added_by : (events : List Event) (place : Option ChainPlace) (new : Bool) → AddsPlace events place new → cond {A = ℕ} new 1 0 ≡ places_added events place
added_by events None new is = ap (λ (b : Bool). cond {A = ℕ} b 1 0) is
added_by events (Some place) new is = ap (λ (b : Bool). cond {A = ℕ} b 1 0) is ∙ is_empty place.host place.tag (records_of events)

module _ (events : List Event) (place : Option ChainPlace) (totals : Held) (weight : ℕ) (new : Bool) (is : totals_seen totals ≡ held_of events) (adds : AddsPlace events place new) where
  entries_are : totals.entries ≡ length events
  entries_are = ap (λ (t : Totals). t.entries) is

  bytes_are : totals.bytes ≡ sum_by event_weight events
  bytes_are = ap (λ (t : Totals). t.weight) is

  places_are : totals.places ≡ length (places_of (records_of events))
  places_are = ap (λ (t : Totals). t.places) is

  added : cond {A = ℕ} new 1 0 ≡ places_added events place
  added = added_by events place new adds

  abbrev limit_by : Bool → Bool → Bool → Option PassedLimit
  limit_by a b c = option_or (cond a (Some (record { what = 1; held = length events })) None) (option_or (cond b (Some (record { what = 2; held = sum_by event_weight events })) None) (cond c (Some (record { what = 3; held = length (places_of (records_of events)) })) None))

  abbrev many : Bool
  many = nat_lt 4000000 (length events + 1)

  abbrev heavy : Bool
  heavy = nat_lt 4294967296 (sum_by event_weight events + weight)

  abbrev wide : Bool
  wide = nat_lt 4096 (length (places_of (records_of events)) + places_added events place)

  few : totals.entries + 1 ≤ 4000000 → many ≡ false
  few h = le-ltb 4000000 (length events + 1) (omega (arith, h, entries_are))

  light : totals.bytes + weight ≤ 4294967296 → heavy ≡ false
  light h = le-ltb 4294967296 (sum_by event_weight events + weight) (omega (arith, h, bytes_are))

  narrow : totals.places + cond new 1 0 ≤ 4096 → wide ≡ false
  narrow h = le-ltb 4096 (length (places_of (records_of events)) + places_added events place) (omega (arith, h, places_are, added))

  pub entries_pass : 4000000 < totals.entries + 1 → limit_passed events weight place ≡ Some (record { what = 1; held = totals.entries })
  entries_pass h =
      let pass : many ≡ true = lt-ltb 4000000 (length events + 1) (omega (arith, h, entries_are)) in
      ap (λ (a : Bool). limit_by a heavy wide) pass ∙ (λ i. Some (record { what = 1; held = sym entries_are i }))

  pub bytes_pass : totals.entries + 1 ≤ 4000000 → 4294967296 < totals.bytes + weight → limit_passed events weight place ≡ Some (record { what = 2; held = totals.bytes })
  bytes_pass one h =
      let pass : heavy ≡ true = lt-ltb 4294967296 (sum_by event_weight events + weight) (omega (arith, h, bytes_are)) in
      let below = few one in
      (λ i. limit_by (below i) (pass i) wide) ∙ (λ i. Some (record { what = 2; held = sym bytes_are i }))

  pub places_pass : totals.entries + 1 ≤ 4000000 → totals.bytes + weight ≤ 4294967296 → 4096 < totals.places + cond new 1 0 → limit_passed events weight place ≡ Some (record { what = 3; held = totals.places })
  places_pass one two h =
      let pass : wide ≡ true = lt-ltb 4096 (length (places_of (records_of events)) + places_added events place) (omega (arith, h, places_are, added)) in
      let below = few one in
      let lighter = light two in
      (λ i. limit_by (below i) (lighter i) (pass i)) ∙ (λ i. Some (record { what = 3; held = sym places_are i }))

  pub none_pass : totals.entries + 1 ≤ 4000000 → totals.bytes + weight ≤ 4294967296 → totals.places + cond new 1 0 ≤ 4096 → limit_passed events weight place ≡ None
  none_pass one two three =
      let below = few one in
      let lighter = light two in
      let narrower = narrow three in
      λ i. limit_by (below i) (lighter i) (narrower i)

  pub totals_more : (more : Held) → more.entries ≡ totals.entries + 1 → more.bytes ≡ totals.bytes + weight → more.places ≡ totals.places + cond new 1 0 → totals_seen more ≡ totals_with events weight place
  totals_more more e b p =
      let entries : more.entries ≡ length events + 1 = omega (arith, e, entries_are) in
      let bytes : more.bytes ≡ sum_by event_weight events + weight = omega (arith, b, bytes_are) in
      let places : more.places ≡ length (places_of (records_of events)) + places_added events place = omega (arith, p, places_are, added) in
      λ i. record { entries = entries i; weight = bytes i; places = places i }

-- the totals with one more record
pub totals_with_record : (events : List Event) (owner : ℕ) (r : SealedRecord) → totals_with events (record_weight r) (Some (record { host = r.host; tag = r.tag })) ≡ held_of (events ++ Taken owner r ∷ [])
totals_with_record events owner r =
    let entries = sym (length_push events (Taken owner r)) in
    let weight = sym (sum_by_push event_weight events (Taken owner r)) in
    let places = sym (places_more events (Taken owner r)) in
    λ i. record { entries = entries i; weight = weight i; places = places i }
