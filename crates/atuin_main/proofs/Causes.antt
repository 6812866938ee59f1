-- Each way in which a command ends gives the cause of its status.
use Rattle.std.proofs.Common.{◌≡◌, ◌≢◌, ℕ, List, [], length, Result, Ok, Err, Option, Some, None, IfSome, inl, inr, sym, ◌∙◌, ap, subst}
use Rattle.disk_rules.specs.History.{History}
use Rattle.record_model.specs.declared.asking.Query.{Query}
use Rattle.model_words.specs.Seen.{query_seen}
use Rattle.at_edge.specs.Taking.{SourceSeen}
use Rattle.at_edge.specs.Writing.{SinkSeen}
use Rattle.at_edge.specs.Storing.{DiskSeen, Tells}
use Rattle.at_edge.specs.Drawing.{EntropySeen}
use Rattle.at_edge.specs.Telling.{ClockSeen}
use Rattle.at_edge.specs.declared.ending.SessionFail.{SessionFail}
use Rattle.at_edge.specs.declared.ending.SessionFail.TheVariants as session
use Rattle.call_supplies.specs.Supplies.{Supplies, supplies}
use Rattle.session_seats.specs.Sessions.{Pipe, pipe}
use Rattle.record_log.specs.declared.opening.OpenFail.{OpenFail}
use Rattle.record_log.specs.declared.opening.OpenFail.TheVariants as opening
use Rattle.statuses.specs.declared.Status.{Status}
use Rattle.statuses.specs.declared.Status.TheVariants as status
use Rattle.statuses.specs.Numbers.{number_of}
use Rattle.command_words.specs.declared.Command.{Command}
use Rattle.command_words.specs.declared.Command.TheVariants as commands
use Rattle.commands.specs.Logs.{ShowsSome}
use Rattle.commands.specs.Initializing.{Inits}
use Rattle.commands.specs.Migrating.{Migrates, status_of_migrate}
use Rattle.commands.specs.declared.migrating.MigrateFail.{MigrateFail}
use Rattle.commands.specs.declared.migrating.MigrateFail.TheVariants as migrating
use Rattle.store_commands.specs.Ends.{status_of_opening, status_of_fail}
use Rattle.store_commands.specs.Telling.{TellsStatus}
use Rattle.store_commands.specs.Finding.{FindsHits}
use Rattle.store_commands.specs.Piping.{Pipes, PipesNothing, PipesSession, status_of_session, status_of_pipe}
use Rattle.store_commands.specs.declared.ends.CommandFail.{CommandFail}
use Rattle.store_commands.specs.declared.ends.CommandFail.TheVariants as fails
use Rattle.store_commands.specs.declared.piping.PipeFail.{PipeFail}
use Rattle.store_commands.specs.declared.piping.PipeFail.TheVariants as piping
use Rattle.atuin_main.specs.Outside.{Outside, outside}
use Rattle.atuin_main.specs.Running.{status_by, PrintsAlone, RunsCommand}
use Rattle.atuin_main.specs.Causes.{CommandEnds, ProgramEnds, TellsCause, EndsByStatus}
use Rattle.atuin_main.proofs.Numbers.{same_status}

-- ---- an outside that is as it was

module _ (old new : Outside) (source : new.source ≡ old.source) (sink : new.sink ≡ old.sink) (disk : new.disk ≡ old.disk) (second : new.second ≡ old.second) (rand : new.rand ≡ old.rand) (clock : new.clock ≡ old.clock) where
  same_outside : new ≡ old
  same_outside =
      ap (λ (s : SourceSeen). outside s new.sink new.disk new.second new.rand new.clock) source ∙
      ap (λ (k : SinkSeen). outside old.source k new.disk new.second new.rand new.clock) sink ∙
      ap (λ (d : DiskSeen). outside old.source old.sink d new.second new.rand new.clock) disk ∙
      ap (λ (d : DiskSeen). outside old.source old.sink old.disk d new.rand new.clock) second ∙
      ap (λ (e : EntropySeen). outside old.source old.sink old.disk old.second e new.clock) rand ∙
      ap (λ (c : ClockSeen). outside old.source old.sink old.disk old.second old.rand c) clock

-- ---- init

module _ (key_text : List ℕ) (old new : Outside) where
  init_ends : (ended : Status) → Inits ended old.disk new.disk old.rand new.rand old.clock new.clock → CommandEnds ended commands.Init key_text old new
  init_ends status.Done done = done
  init_ends status.WrongDisk made = made.2.0
  init_ends status.DiskFault made = made.2
  init_ends status.RandFault drawn = drawn.0.rose
  init_ends status.FaultyWords made = absurd made.2
  init_ends status.FaultyKeyText made = absurd made.2
  init_ends status.SourceFault made = absurd made.2
  init_ends status.SinkFault made = absurd made.2
  init_ends status.DamagedLog made = absurd made.2
  init_ends status.NoMemory made = tt
  init_ends status.FaultyFrame made = absurd made.2
  init_ends status.SessionLimit made = absurd made.2
  init_ends status.OldLog made = absurd made.2

-- ---- pipe

module _ (key_text : List ℕ) (old new : Outside) where
  session_ends : (fail : SessionFail) (key : List ℕ) → PipesSession (Err fail) key old.disk new.disk (supplies old.rand old.clock) (supplies new.rand new.clock) (pipe old.source old.sink) (pipe new.source new.sink) → CommandEnds (status_of_session fail) commands.Pipe key_text old new
  session_ends session.SourceFault key held = held.serves.serves.ends.4
  session_ends session.SinkFault key held = held.serves.serves.ends.0.faults
  session_ends (session.CutFrame at) key held = λ payloads rest cut left. let end = held.ends payloads rest cut left in (end.0, inl end.1)
  session_ends (session.FrameTooLong named) key held = λ payloads rest cut left. let end = held.ends payloads rest cut left in (end.0, inr end.1)
  session_ends session.SessionLimit key held = λ payloads rest cut left. held.ends payloads rest cut left
  session_ends session.NoMemory key held = tt

  unopened_ends : (fail : OpenFail) → PipesNothing fail old.disk new.disk (supplies old.rand old.clock) (supplies new.rand new.clock) (pipe old.source old.sink) (pipe new.source new.sink) → CommandEnds (status_of_opening fail) commands.Pipe key_text old new
  unopened_ends opening.NotALog held = held.cause.0
  unopened_ends (opening.Damaged offset) held = (offset, held.cause.0)
  unopened_ends opening.DiskFault held = (held.cause.0, ap (λ (p : Pipe). p.source) held.pipe, ap (λ (p : Pipe). p.sink) held.pipe)
  unopened_ends opening.NoMemory held = tt
  unopened_ends opening.OldLog held = held.cause.0

  pipe_ends : (result : Result (Unit {0}) PipeFail) → Pipes result key_text old.disk new.disk (supplies old.rand old.clock) (supplies new.rand new.clock) (pipe old.source old.sink) (pipe new.source new.sink) → new.second ≡ old.second → CommandEnds (status_by status_of_pipe result) commands.Pipe key_text old new
  pipe_ends (Ok _) held second = held
  pipe_ends (Err piping.FaultyKeyText) held second =
      (held.0, same_outside old new (ap (λ (p : Pipe). p.source) held.3) (ap (λ (p : Pipe). p.sink) held.3) held.1 second (ap (λ (s : Supplies). s.rand) held.2) (ap (λ (s : Supplies). s.clock) held.2))
  pipe_ends (Err (piping.Unopened fail)) held second = unopened_ends fail held.1.1
  pipe_ends (Err (piping.Ended fail)) held second = session_ends fail held.0 held.1.1

-- ---- status

module _ (key_text : List ℕ) (old new : Outside) where
  status_ends : (result : Result (Unit {0}) CommandFail) → TellsStatus result old.disk new.disk old.sink new.sink → CommandEnds (status_by status_of_fail result) commands.Status key_text old new
  status_ends (Ok _) told = told
  status_ends (Err fails.FaultyKeyText) told = absurd told.1.2
  status_ends (Err (fails.Unopened opening.NotALog)) told = told.0.0
  status_ends (Err (fails.Unopened (opening.Damaged offset))) told = (offset, told.0.0)
  status_ends (Err (fails.Unopened opening.DiskFault)) told = told.0.0
  status_ends (Err (fails.Unopened opening.NoMemory)) told = tt
  status_ends (Err (fails.Unopened opening.OldLog)) told = told.0.0
  status_ends (Err fails.SinkFault) told = told.1.2.1.faults
  status_ends (Err fails.NoMemory) told = tt

-- ---- search

module _ (key_text : List ℕ) (query : Query) (old new : Outside) (alone : PrintsAlone old new) where
  search_ends : (result : Result (Unit {0}) CommandFail) → FindsHits result key_text (query_seen query) old.disk new.disk old.sink new.sink → CommandEnds (status_by status_of_fail result) (commands.Search query) key_text old new
  search_ends (Ok _) found = found
  search_ends (Err fails.FaultyKeyText) found = (found.0, same_outside old new alone.source found.2 found.1 alone.second alone.rand alone.clock)
  search_ends (Err (fails.Unopened opening.NotALog)) found = found.1.1.0
  search_ends (Err (fails.Unopened (opening.Damaged offset))) found = (offset, found.1.1.0)
  search_ends (Err (fails.Unopened opening.DiskFault)) found = found.1.1.0
  search_ends (Err (fails.Unopened opening.NoMemory)) found = tt
  search_ends (Err (fails.Unopened opening.OldLog)) found = found.1.1.0
  search_ends (Err fails.SinkFault) found = found.1.1.1.2.prints.1.faults
  search_ends (Err fails.NoMemory) found = tt

-- ---- migrate

shows_some : (count : ℕ) (disk : DiskSeen) → count ≢ 0 → Tells disk (λ d. count ≡ length d.shows) → ShowsSome disk
shows_some count disk some counted = arrived_some disk.history counted where
  arrived_some : (history : Option History) → IfSome history (λ h. count ≡ length h.now.shows) → IfSome history (λ h. h.now.shows ≢ [])
  arrived_some None counted = tt
  arrived_some (Some history) counted = λ none. some (counted ∙ ap length none)

module _ (key_text : List ℕ) (old new : Outside) where
  migrate_ends : (result : Result (Unit {0}) MigrateFail) → Migrates result old.disk new.disk old.second new.second old.sink new.sink → CommandEnds (status_by status_of_migrate result) commands.Migrate key_text old new
  migrate_ends (Ok _) moved = moved
  migrate_ends (Err migrating.NotOld) moved = inl moved.ends.0
  migrate_ends (Err (migrating.Damaged offset)) moved = (offset, moved.ends.0)
  migrate_ends (Err (migrating.NotEmpty count)) moved = inr (moved.ends.0, shows_some count old.second moved.ends.1.1 moved.ends.1.2)
  migrate_ends (Err migrating.OldFault) moved = inl moved.ends.0
  migrate_ends (Err migrating.MakeFault) moved = inr moved.ends.1
  migrate_ends (Err migrating.CopyFault) moved = inr moved.ends.0
  migrate_ends (Err migrating.SinkFault) moved = moved.ends.3.1.faults
  migrate_ends (Err migrating.NoMemory) moved = tt

-- ---- all of them

-- the status of a command whose number this is
pub record Ended (command : Command) (number : ℕ) (key_text : List ℕ) (old new : Outside) : Type 0 where
  pub status : Status
  pub number_is : number ≡ number_of status
  pub cause : CommandEnds status command key_text old new

command_ends : (command : Command) (number : ℕ) (key_text : List ℕ) (old new : Outside) → RunsCommand command number key_text old new → Ended command number key_text old new
command_ends commands.Init number key_text old new runs = record { status = runs.status; number_is = runs.number_is; cause = init_ends key_text old new runs.status runs.inits }
command_ends commands.Pipe number key_text old new runs = record { status = status_by status_of_pipe runs.result; number_is = runs.number_is; cause = pipe_ends key_text old new runs.result runs.pipes runs.rest }
command_ends commands.Status number key_text old new runs = record { status = status_by status_of_fail runs.result; number_is = runs.number_is; cause = status_ends key_text old new runs.result runs.tells }
command_ends (commands.Search query) number key_text old new runs = record { status = status_by status_of_fail runs.result; number_is = runs.number_is; cause = search_ends key_text query old new runs.rest runs.result runs.finds }
command_ends commands.Migrate number key_text old new runs = record { status = status_by status_of_migrate runs.result; number_is = runs.number_is; cause = migrate_ends key_text old new runs.result runs.migrates }

-- the cause of one status is that of each with the same number
by_number : (one ended : Status) (command : Option Command) (key_text : List ℕ) (old new : Outside) → number_of ended ≡ number_of one → ProgramEnds one command key_text old new → ProgramEnds ended command key_text old new
by_number one ended command key_text old new same cause = subst (λ (s : Status). ProgramEnds s command key_text old new) (sym (same_status one ended (sym same))) cause

pub tells_cause : TellsCause
tells_cause ended (Some command) key_text old new (inl runs) =
    let told = command_ends command (number_of ended) key_text old new runs in
    by_number told.status ended (Some command) key_text old new told.number_is told.cause
tells_cause ended None key_text old new (inl runs) = by_number status.FaultyWords ended None key_text old new runs.0 runs.1
tells_cause ended (Some command) key_text old new (inr short) = by_number status.NoMemory ended (Some command) key_text old new short.0 tt
tells_cause ended None key_text old new (inr short) = by_number status.NoMemory ended None key_text old new short.0 short.1

pub ends_by_status : EndsByStatus
ends_by_status number (Some command) key_text old new (inl runs) = let told = command_ends command number key_text old new runs in (told.status, told.number_is)
ends_by_status number None key_text old new (inl runs) = (status.FaultyWords, runs.0)
ends_by_status number command key_text old new (inr short) = (status.NoMemory, short.0)
