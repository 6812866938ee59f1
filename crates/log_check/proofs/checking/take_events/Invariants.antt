use Rattle.std.proofs.Common.{◌≡◌, ◌+◌, ℕ, List, length}
use Rattle.record_rules.specs.Records.{Event}
use Rattle.log_check.specs.Checking.{HasChecked}
use Rattle.log_check.proofs.Bodies.{most_left}
use Rattle.log_check.proofs.checking.take_events.Given as goal

abbrev pub invariant-loop-event : goal.invariant-loop-event
invariant-loop-event l = record {
  checked : (limit : ℕ) (before : List Event) (bytes : List ℕ) → HasChecked limit before bytes l.initial.reader l.initial.check → HasChecked limit before bytes l.reader l.check;
  place : l.reader.reading.at + length l.reader.reading.rest ≡ l.initial.reader.reading.at + length l.initial.reader.reading.rest;
  limit : l.reader.reading.limit ≡ l.initial.reader.reading.limit;
  host : l.check.host ≡ l.initial.check.host;
}

abbrev pub decreases-loop-event : goal.decreases-loop-event
decreases-loop-event l = most_left l.reader.left
