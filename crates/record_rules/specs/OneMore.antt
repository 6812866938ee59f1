-- What one more entry makes of a journal's chains, totals and running commands: code that keeps them goes by these words.
use Rattle.std.specs.Prelude.{ℕ, ◌+◌, ◌&&◌, not, List, [], ◌∷◌, ◌++◌, length, filter, sum_by, Some, None, if◌then◌else◌, ◌==◌}
use Rattle.definitions.specs.Journal.{StartedRecord}
use Rattle.record_rules.specs.Records.{SealedRecord, Event, Started, Local, Taken, event_weight}
use Rattle.record_rules.specs.Journal.{is_owned_by, records_of, in_place, Totals, held_of, places_of, places_added, event_place}

-- what an owner holds, with one more event
abbrev pub own_with : ℕ → List Event → Event → List Event
own_with owner owned event = if is_owned_by owner event then owned ++ event ∷ [] else owned

-- the chain of an owner, host and tag, with one more event
abbrev pub chain_with : (owner host : ℕ) (tag : List ℕ) → List SealedRecord → Event → List SealedRecord
chain_with owner host tag records (Started s) = records
chain_with owner host tag records (Local closes r) = if (0 == owner) && in_place host tag r then records ++ r ∷ [] else records
chain_with owner host tag records (Taken whose r) = if (whose == owner) && in_place host tag r then records ++ r ∷ [] else records

-- what runs, with one more event: a start is the last to run, and what is closed no longer does
abbrev pub running_with : List StartedRecord → Event → List StartedRecord
running_with running (Started s) = running ++ s ∷ []
running_with running (Local None r) = running
running_with running (Local (Some closed) r) = filter (λ s. not (closed == s.id)) running
running_with running (Taken owner r) = running

-- the totals of an owner that holds these, with one more event
abbrev pub held_with : ℕ → List Event → Event → Totals
held_with owner owned event =
    if is_owned_by owner event then record { entries = length owned + 1; weight = sum_by event_weight owned + event_weight event; places = length (places_of (records_of owned)) + places_added owned (event_place event) } else held_of owned
