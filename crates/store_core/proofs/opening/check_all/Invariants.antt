use Rattle.std.proofs.Common.{◌≡◌, ◌++◌, List, take}
use Rattle.record_rules.specs.Records.{Event}
use Rattle.record_model.specs.Seen.{events_seen}
use Rattle.log_check.specs.Checking.{IsChecked}
use Rattle.store_core.proofs.opening.check_all.Given as goal

abbrev pub invariant-loop-event : goal.invariant-loop-event
invariant-loop-event l = record {
  checked : (before : List Event) → IsChecked l.initial.check before → IsChecked l.check (before ++ events_seen (take l.event-index l.events));
  host : l.check.host ≡ l.initial.check.host;
}
