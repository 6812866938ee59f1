-- What an owner holds stays within the limits.
use Rattle.std.proofs.Common.{◌≡◌, ℕ, ◌+◌, ◌≤◌, List, [], ◌∷◌, ◌++◌, length, Option, None, sym, ◌∙◌, ap, subst, arith}
use Rattle.std.specs.Prelude.{sum_by, nat_lt}
use Rattle.std.specs.Option.{option_or}
use Rattle.std.proofs.lemmas.Bool.{ltb-false}
use Rattle.std.proofs.lemmas.List.{append-nil, length_push}
use Rattle.std.proofs.lemmas.List.Sums.{sum_by-append}
use Rattle.std.proofs.lemmas.List.Elements.{filter_map-append}
use Rattle.definitions.specs.Limits.{most_entries, most_held_weight, most_places}
use Rattle.record_rules.specs.Records.{Event, Started, Local, Taken, event_weight}
use Rattle.record_rules.specs.Journal.{ChainPlace, PassedLimit, TotalsFit, held_of, event_record, event_place, records_of, places_of, places_added, entries_passed, weight_passed, places_passed, limit_passed}
use Rattle.record_rules.proofs.Options.{cond_none, option_or_none}
use Rattle.record_rules.proofs.Places.{length-places_of-push}

-- what it says that no limit is passed
pub record Room (events : List Event) (weight : ℕ) (place : Option ChainPlace) : Type 0 where
  pub entries : length events + 1 ≤ most_entries
  pub total : sum_by event_weight events + weight ≤ most_held_weight
  pub places : length (places_of (records_of events)) + places_added events place ≤ most_places

pub room_from_none : (events : List Event) (weight : ℕ) (place : Option ChainPlace) → limit_passed events weight place ≡ None → Room events weight place
room_from_none events weight place none =
    let n = length events in
    let w = sum_by event_weight events in
    let p = length (places_of (records_of events)) in
    let first = option_or_none (entries_passed events) (option_or (weight_passed events weight) (places_passed events place)) none in
    let rest = option_or_none (weight_passed events weight) (places_passed events place) first.1 in
    let few = cond_none {A = PassedLimit} (nat_lt most_entries (n + 1)) (record { what = 1; held = n }) None first.0 in
    let light = cond_none {A = PassedLimit} (nat_lt most_held_weight (w + weight)) (record { what = 2; held = w }) None rest.0 in
    let narrow = cond_none {A = PassedLimit} (nat_lt most_places (p + places_added events place)) (record { what = 3; held = p }) None rest.1 in
    record {
      entries = ltb-false most_entries (n + 1) few.0;
      total = ltb-false most_held_weight (w + weight) light.0;
      places = ltb-false most_places (p + places_added events place) narrow.0;
    }

-- the places with one more event
pub places_more : (events : List Event) (event : Event) → length (places_of (records_of (events ++ event ∷ []))) ≡ length (places_of (records_of events)) + places_added events (event_place event)
places_more events (Started s) = ap (λ records. length (places_of records)) (filter_map-append event_record events (Started s ∷ []) ∙ append-nil (records_of events)) ∙ omega arith
places_more events (Local closes r) = ap (λ records. length (places_of records)) (filter_map-append event_record events (Local closes r ∷ [])) ∙ length-places_of-push (records_of events) r
places_more events (Taken owner r) = ap (λ records. length (places_of records)) (filter_map-append event_record events (Taken owner r ∷ [])) ∙ length-places_of-push (records_of events) r

pub TotalsFit-more : (events : List Event) (event : Event) → Room events (event_weight event) (event_place event) → TotalsFit (held_of (events ++ event ∷ []))
TotalsFit-more events event room = record {
  entries = subst (λ n. n ≤ most_entries) (sym (length_push events event)) room.entries;
  weight = subst (λ n. n ≤ most_held_weight) (sym (sum_by-append event_weight events (event ∷ []))) (let h = room.total in omega arith);
  places = subst (λ n. n ≤ most_places) (sym (places_more events event)) room.places;
}
