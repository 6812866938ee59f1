-- A session over the store that stands on a disk.
use Rattle.std.specs.Prelude.{◌≡◌, ◌≢◌, ℕ, List, [], ◌++◌, map, true, Result, Ok, Err, Option, Some, None}
use Rattle.definitions.specs.Counts.{Rose, RoseBy}
use Rattle.definitions.specs.Frames.{frames, CutAfter}
use Rattle.record_rules.specs.Records.{Event}
use Rattle.disk_rules.specs.History.{History}
use Rattle.log_rules.specs.Opened.{opened_journal}
use Rattle.step_rules.specs.Answers.{Reply}
use Rattle.step_rules.specs.Sealing.{keyed_store}
use Rattle.session_rules.specs.Sessions.{call_reply, told_random_faults}
use Rattle.session_rules.specs.Passes.{disk_faults}
use Rattle.session_rules.specs.Stores.{StoreState, RunTurn}
use Rattle.session_crashes.specs.Crashes.{LeftSinceOrThen, with_doubt, IsBetween, AnswersStay}
use Rattle.record_seal.proofs.StoreSealing.{record_sealing}
use Rattle.at_edge.specs.Storing.{DiskSeen, Tells}
use Rattle.at_edge.specs.declared.ending.Served.{Served}
use Rattle.at_edge.specs.declared.ending.SessionFail.{SessionFail}
use Rattle.at_edge.specs.declared.ending.SessionFail.TheVariants as session
use Rattle.call_supplies.specs.Supplies.{Supplies}
use Rattle.key_text.specs.KeyText.{key_of}
use Rattle.record_log.specs.Opening.{OpenCause, LeavesNoMore}
use Rattle.record_log.specs.declared.opening.OpenFail.{OpenFail}
use Rattle.session_seats.specs.Sessions.{most_requests, Pipe, ServesAlone}
use Rattle.session_seats.specs.Inputs.{IsEndOf}
use Rattle.session_seats.specs.Stores.{StoreSeen}
use Rattle.commands.specs.Logs.{HoldsJournal, DoubtsJournal}
use Rattle.statuses.specs.declared.Status.{Status}
use Rattle.statuses.specs.declared.Status.TheVariants as status
use Rattle.store_commands.specs.Ends.{status_of_opening, KeepsLog}
use Rattle.store_commands.specs.declared.piping.PipeFail.{PipeFail}
use Rattle.store_commands.specs.declared.piping.PipeFail.TheVariants as fails

abbrev pub status_of_session : SessionFail → Status
status_of_session session.SourceFault = status.SourceFault
status_of_session session.SinkFault = status.SinkFault
status_of_session (session.CutFrame at) = status.FaultyFrame
status_of_session (session.FrameTooLong named) = status.FaultyFrame
status_of_session session.SessionLimit = status.SessionLimit
status_of_session session.NoMemory = status.NoMemory

abbrev pub status_of_pipe : PipeFail → Status
status_of_pipe fails.FaultyKeyText = status.FaultyKeyText
status_of_pipe (fails.Unopened fail) = status_of_opening fail
status_of_pipe (fails.Ended fail) = status_of_session fail

-- a store just opened that one caller alone has: its calls are those of pass 1, nothing is in doubt, and it had no turn
abbrev pub opened_alone : (host : ℕ) → (key : List ℕ) → List Event → (opened : DiskSeen) → StoreSeen
opened_alone host key events opened = record {
  fixed = record { keyed = keyed_store record_sealing host key; has_key = true; number = 1; alone = true };
  state = record { entries = opened_journal events; doubt = []; faults = opened.faults };
  turns = Some [];
  history = opened.history;
}

-- where the source tells what is left in it, the end is that of those bytes
abbrev pub EndsAsTold : Result Served SessionFail → Pipe → Type 0
EndsAsTold outcome from = (payloads : List (List ℕ)) (rest : List ℕ) → CutAfter most_requests payloads rest → from.source.left ≡ Some (frames payloads ++ rest) → IsEndOf outcome payloads rest

-- For each fault that a reply tells, of the disk and of the random source, one was counted.
pub record CountsFaults (replies : List Reply) (old new : DiskSeen) (before after : Supplies) : Type 0 where
  pub of_disk : RoseBy (disk_faults (map call_reply replies)) old.faults new.faults
  pub of_random : RoseBy (told_random_faults (map call_reply replies)) before.rand.faults after.rand.faults

-- The disk holds what the session leaves. Only where its count rose is a batch in doubt, which a crash may or may not leave.
pub record LeavesStore (host : ℕ) (last : StoreSeen) (old new : DiskSeen) : Type 0 where
  pub holds : last.state.doubt ≡ [] → Tells new (HoldsJournal host last.state.entries)
  pub doubts : last.state.doubt ≢ [] → Tells new (DoubtsJournal host last.state.entries last.state.doubt)
  pub counted : last.state.doubt ≢ [] → Rose old.faults new.faults

-- What a crash at any moment leaves of a session, whose turns these were. Wherever it is cut in two, what was answered before stays. Since its start whatever a crash may have
-- left might have been left then, or stands for a journal that begins with the opened one, and goes no further than what the session leaves, with what is in doubt.
pub record CrashKeeps (host : ℕ) (first last : StoreState) (turns : List RunTurn) (old opened new : Option History) : Type 0 where
  pub opening : LeavesNoMore old opened
  pub stays : (answered more : List RunTurn) → turns ≡ answered ++ more → AnswersStay host first answered more opened new
  pub since : LeftSinceOrThen (IsBetween host first.entries (with_doubt last)) old new

-- The session began at the journal of the events that the disk showed, and the disk holds what it leaves.
pub record PipesSession (outcome : Result Served SessionFail) (key : List ℕ) (old new : DiskSeen) (before after : Supplies) (from to : Pipe) : Type 0 where
  pub host : ℕ
  pub events : List Event
  pub opened : DiskSeen
  pub keeps : KeepsLog host events old opened
  pub last : StoreSeen
  pub serves : ServesAlone outcome (opened_alone host key events opened) last before after from to
  pub ends : EndsAsTold outcome from
  pub leaves : LeavesStore host last old new
  pub crash : CrashKeeps host (opened_alone host key events opened).state last.state serves.runs.turns old.history opened.history new.history
  pub faults : CountsFaults serves.serves.replies old new before after

-- no store was opened, for that cause, and nothing but the disk was asked
pub record PipesNothing (fail : OpenFail) (old new : DiskSeen) (before after : Supplies) (from to : Pipe) : Type 0 where
  pub cause : OpenCause fail old new
  pub crash : LeavesNoMore old.history new.history
  pub supplies : after ≡ before
  pub pipe : to ≡ from

-- The text tells no key, and all is as it was. Or it tells one: no store was opened; or a session was held, which ended so.
abbrev pub Pipes : Result (Unit {0}) PipeFail → (key_text : List ℕ) → (old new : DiskSeen) → (before after : Supplies) → (from to : Pipe) → Type 0
Pipes (Err fails.FaultyKeyText) key_text old new before after from to = (key_of key_text ≡ None) × (new ≡ old) × (after ≡ before) × (to ≡ from)
Pipes (Err (fails.Unopened fail)) key_text old new before after from to = (key : List ℕ) × ((key_of key_text ≡ Some key) × PipesNothing fail old new before after from to)
Pipes (Err (fails.Ended fail)) key_text old new before after from to = (key : List ℕ) × ((key_of key_text ≡ Some key) × PipesSession (Err fail) key old new before after from to)
Pipes (Ok _) key_text old new before after from to = (key : List ℕ) × ((key_of key_text ≡ Some key) × ((served : Served) × PipesSession (Ok served) key old new before after from to))
