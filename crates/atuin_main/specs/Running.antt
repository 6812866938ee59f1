-- What the program does to the outside, and by which number it tells how it ended: for each command what the command does, and nothing
-- to what it has no use for.
use Rattle.std.specs.Prelude.{◌≡◌, ◌⊎◌, ℕ, List, Result, Ok, Err, Option, Some, None}
use Rattle.view_rules.specs.Answers.{ScopedQuery}
use Rattle.step_rules.specs.Calls.{CallFits, search_call}
use Rattle.model_words.specs.Seen.{query_seen}
use Rattle.call_supplies.specs.Supplies.{supplies}
use Rattle.session_seats.specs.Sessions.{pipe}
use Rattle.record_log.specs.Opening.{LeavesNoMore}
use Rattle.statuses.specs.declared.Status.{Status}
use Rattle.statuses.specs.declared.Status.TheVariants as statuses
use Rattle.statuses.specs.Numbers.{number_of}
use Rattle.command_words.specs.declared.Command.{Command}
use Rattle.command_words.specs.declared.Command.TheVariants as commands
use Rattle.commands.specs.Initializing.{Inits}
use Rattle.commands.specs.Migrating.{Migrates, status_of_migrate}
use Rattle.commands.specs.declared.migrating.MigrateFail.{MigrateFail}
use Rattle.store_commands.specs.Ends.{status_of_fail}
use Rattle.store_commands.specs.Telling.{TellsStatus}
use Rattle.store_commands.specs.Finding.{FindsHits}
use Rattle.store_commands.specs.Piping.{Pipes, status_of_pipe}
use Rattle.store_commands.specs.declared.ends.CommandFail.{CommandFail}
use Rattle.store_commands.specs.declared.piping.PipeFail.{PipeFail}
use Rattle.atuin_main.specs.Outside.{Outside}

-- ---- statuses

-- what the system is told of a command that ended so, where it is told this of each refusal
abbrev pub status_by : {F : Type 0} → (F → Status) → Result (Unit {0}) F → Status
status_by told (Ok _) = statuses.Done
status_by told (Err fail) = told fail

-- ---- commands

-- A log is made: source, sink and second disk are as they were.
pub record RunsInit (number : ℕ) (old new : Outside) : Type 0 where
  pub status : Status
  pub number_is : number ≡ number_of status
  pub inits : Inits status old.disk new.disk old.rand new.rand old.clock new.clock
  pub rest : (new.source ≡ old.source) × (new.sink ≡ old.sink) × (new.second ≡ old.second)

-- A session is held: the second disk is as it was.
pub record RunsPipe (number : ℕ) (key_text : List ℕ) (old new : Outside) : Type 0 where
  pub result : Result (Unit {0}) PipeFail
  pub number_is : number ≡ number_of (status_by status_of_pipe result)
  pub pipes : Pipes result key_text old.disk new.disk (supplies old.rand old.clock) (supplies new.rand new.clock) (pipe old.source old.sink) (pipe new.source new.sink)
  pub rest : new.second ≡ old.second

-- what a command that prints leaves alone
pub record PrintsAlone (old new : Outside) : Type 0 where
  pub source : new.source ≡ old.source
  pub second : new.second ≡ old.second
  pub rand : new.rand ≡ old.rand
  pub clock : new.clock ≡ old.clock

-- The chains are printed.
pub record RunsStatus (number : ℕ) (old new : Outside) : Type 0 where
  pub result : Result (Unit {0}) CommandFail
  pub number_is : number ≡ number_of (status_by status_of_fail result)
  pub tells : TellsStatus result old.disk new.disk old.sink new.sink
  pub crash : LeavesNoMore old.disk.history new.disk.history
  pub rest : PrintsAlone old new

-- Hits are printed.
pub record RunsSearch (number : ℕ) (key_text : List ℕ) (asked : ScopedQuery) (old new : Outside) : Type 0 where
  pub result : Result (Unit {0}) CommandFail
  pub number_is : number ≡ number_of (status_by status_of_fail result)
  pub finds : FindsHits result key_text asked old.disk new.disk old.sink new.sink
  pub crash : LeavesNoMore old.disk.history new.disk.history
  pub rest : PrintsAlone old new

-- An old log is copied: source, random source and clock are as they were.
pub record RunsMigrate (number : ℕ) (old new : Outside) : Type 0 where
  pub result : Result (Unit {0}) MigrateFail
  pub number_is : number ≡ number_of (status_by status_of_migrate result)
  pub migrates : Migrates result old.disk new.disk old.second new.second old.sink new.sink
  pub rest : (new.source ≡ old.source) × (new.rand ≡ old.rand) × (new.clock ≡ old.clock)

-- ---- all of them

-- what a search can be asked; the other commands have no words of their own
abbrev pub CommandFits : Command → Type 0
CommandFits (commands.Search query) = CallFits (search_call (query_seen query))
CommandFits _ = Unit {0}

abbrev pub RunsCommand : Command → (number : ℕ) → (key_text : List ℕ) → (old new : Outside) → Type 0
RunsCommand commands.Init number key_text old new = RunsInit number old new
RunsCommand commands.Pipe number key_text old new = RunsPipe number key_text old new
RunsCommand commands.Status number key_text old new = RunsStatus number old new
RunsCommand (commands.Search query) number key_text old new = RunsSearch number key_text (query_seen query) old new
RunsCommand commands.Migrate number key_text old new = RunsMigrate number old new

-- words that are no command change nothing
abbrev pub RunsWords : Option Command → (number : ℕ) → (key_text : List ℕ) → (old new : Outside) → Type 0
RunsWords None number key_text old new = (number ≡ number_of statuses.FaultyWords) × (new ≡ old)
RunsWords (Some command) number key_text old new = RunsCommand command number key_text old new

-- nor does want of memory in reading them
abbrev pub Runs : Option Command → (number : ℕ) → (key_text : List ℕ) → (old new : Outside) → Type 0
Runs command number key_text old new = RunsWords command number key_text old new ⊎ ((number ≡ number_of statuses.NoMemory) × (new ≡ old))
