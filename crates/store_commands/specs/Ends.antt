-- How a command over a store ends.
use Rattle.std.specs.Prelude.{◌≡◌, ℕ, List, Result, Ok, Err}
use Rattle.record_rules.specs.Records.{Event}
use Rattle.log_rules.specs.Log.{current_form, StandsFor}
use Rattle.log_rules.specs.Opened.{opened_journal}
use Rattle.at_edge.specs.Storing.{DiskSeen, Tells}
use Rattle.at_edge.specs.Writing.{SinkSeen, Holds, Stopped}
use Rattle.record_log.specs.Opening.{Synced}
use Rattle.record_log.specs.declared.opening.OpenFail.{OpenFail}
use Rattle.record_log.specs.declared.opening.OpenFail.TheVariants as opening
use Rattle.commands.specs.Logs.{HoldsJournal}
use Rattle.statuses.specs.declared.Status.{Status}
use Rattle.statuses.specs.declared.Status.TheVariants as status
use Rattle.store_commands.specs.declared.ends.CommandFail.{CommandFail}
use Rattle.store_commands.specs.declared.ends.CommandFail.TheVariants as fails

-- what the system is told
abbrev pub status_of_opening : OpenFail → Status
status_of_opening opening.NotALog = status.WrongDisk
status_of_opening (opening.Damaged offset) = status.DamagedLog
status_of_opening opening.DiskFault = status.DiskFault
status_of_opening opening.NoMemory = status.NoMemory
status_of_opening opening.OldLog = status.OldLog

abbrev pub status_of_fail : CommandFail → Status
status_of_fail fails.FaultyKeyText = status.FaultyKeyText
status_of_fail (fails.Unopened fail) = status_of_opening fail
status_of_fail fails.SinkFault = status.SinkFault
status_of_fail fails.NoMemory = status.NoMemory

-- the text is printed, or a first part of it where the sink failed, or nothing where memory ran out
abbrev pub Prints : Result (Unit {0}) CommandFail → SinkSeen → SinkSeen → List ℕ → Type 0
Prints (Ok _) old new text = Holds old new text
Prints (Err fails.SinkFault) old new text = (n : ℕ) × Stopped old new text n
Prints (Err fails.NoMemory) old new text = new ≡ old
Prints (Err _) old new text = ⊥

-- the disk showed a good log of these events, was synced, and holds their journal
pub record KeepsLog (host : ℕ) (events : List Event) (old new : DiskSeen) : Type 0 where
  pub shown : Tells old (λ d. StandsFor current_form d.shows host (opened_journal events))
  pub holds : Tells new (HoldsJournal host (opened_journal events))
  pub synced : Synced old new
