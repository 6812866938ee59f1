use Rattle.std.proofs.Common.{◌≡◌, ◌-◌, List}
use Rattle.record_rules.specs.Records.{Event}
use Rattle.log_rules.specs.Opened.{opened_journal}
use Rattle.at_edge.specs.Storing.{Rests}
use Rattle.record_log.specs.Journals.{HasJournal}
use Rattle.store_core.specs.Opening.{WalksTo}
use Rattle.store_core.proofs.opening.keep_log.Given as goal

abbrev pub invariant-batches : goal.invariant-batches
invariant-batches g l = record {
  walks : (events : List Event) → HasJournal l.fn.log (opened_journal events) → WalksTo l.log l.key events l.offset l.tables l.check;
  rests : Rests l.fn.log.disk l.log.disk;
  host : l.log.host ≡ l.fn.log.host;
}

abbrev pub decreases-batches : goal.decreases-batches
decreases-batches g l = l.log.gate - l.offset
