-- Limits of an owner: the one that was passed, and what one more entry makes of the totals.
use Rattle.std.specs.Prelude.{◌≡◌, ℕ, ◌+◌, ◌==◌, Bool, false, List, length, filter, sum_by, Option, Some, None, Result, Ok, Err}
use Rattle.record_rules.specs.Records.{Event, event_weight}
use Rattle.record_rules.specs.Journal as journal
use Rattle.record_rules.specs.Journal.{ChainPlace, Totals, records_of, in_place, places_of, places_added, limit_passed}
use Rattle.chain_index.specs.Meaning.{totals_seen}
use Rattle.chain_index.specs.declared.owner.Held.{Held}
use Rattle.page_growth.specs.declared.limits.PassedLimit.{PassedLimit}

abbrev pub limit_seen : PassedLimit → journal.PassedLimit
limit_seen passed = record { what = passed.what; held = passed.held }

-- whether one more entry beside these adds a place: a started command adds none, a record where its chain is empty
abbrev pub AddsPlace : List Event → Option ChainPlace → Bool → Type 0
AddsPlace events None new = new ≡ false
AddsPlace events (Some place) new = new ≡ (length (filter (in_place place.host place.tag) (records_of events)) == 0)

-- the totals of these with one more entry
abbrev pub totals_with : List Event → (weight : ℕ) → Option ChainPlace → Totals
totals_with events weight place = record { entries = length events + 1; weight = sum_by event_weight events + weight; places = length (places_of (records_of events)) + places_added events place }

-- the totals with one more entry, which passes no limit; or the first one that it would pass
abbrev pub AddsEntry : Result Held PassedLimit → List Event → (weight : ℕ) → Option ChainPlace → Type 0
AddsEntry (Ok totals) events weight place = (limit_passed events weight place ≡ None) × (totals_seen totals ≡ totals_with events weight place)
AddsEntry (Err passed) events weight place = limit_passed events weight place ≡ Some (limit_seen passed)
