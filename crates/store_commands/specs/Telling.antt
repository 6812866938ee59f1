-- What a store tells of its chains.
use Rattle.std.specs.Prelude.{◌≡◌, ℕ, List, Result, Err}
use Rattle.record_rules.specs.Records.{Event}
use Rattle.record_rules.specs.Journal.{status}
use Rattle.log_rules.specs.Opened.{opened_journal}
use Rattle.at_edge.specs.Storing.{DiskSeen}
use Rattle.at_edge.specs.Writing.{SinkSeen}
use Rattle.printing.specs.Lines.{chain_lines}
use Rattle.record_log.specs.Opening.{OpenCause}
use Rattle.store_commands.specs.Ends.{Prints, KeepsLog}
use Rattle.store_commands.specs.declared.ends.CommandFail.{CommandFail}
use Rattle.store_commands.specs.declared.ends.CommandFail.TheVariants as fails

-- no store was opened, for that cause, and nothing was printed; or the status of owner 0 of the journal that the disk holds
abbrev pub TellsStatus : Result (Unit {0}) CommandFail → (old new : DiskSeen) → (sink_old sink_new : SinkSeen) → Type 0
TellsStatus (Err (fails.Unopened fail)) old new sink_old sink_new = OpenCause fail old new × (sink_new ≡ sink_old)
TellsStatus result old new sink_old sink_new =
    (host : ℕ) × ((events : List Event) × KeepsLog host events old new × Prints result sink_old sink_new (chain_lines (status (opened_journal events) 0)))
