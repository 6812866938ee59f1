-- What each number that the program ends by tells of the words, the key's text and the outside.
use Rattle.std.specs.Prelude.{◌≡◌, ℕ, ◌<◌, ◌++◌, ◌⊎◌, List, length, Ok, Option, Some, None}
use Rattle.definitions.specs.Counts.{Rose}
use Rattle.definitions.specs.Frames.{frames, CutAfter, CutFrame, LongFrame}
use Rattle.log_rules.specs.Log.{Form, current_form, old_form, NotALog, NotOld, IsOldLog, DamagedAt}
use Rattle.model_words.specs.Seen.{query_seen}
use Rattle.at_edge.specs.Storing.{DiskSeen, Tells}
use Rattle.call_supplies.specs.Supplies.{supplies}
use Rattle.session_seats.specs.Sessions.{most_requests, pipe}
use Rattle.key_text.specs.KeyText.{key_of}
use Rattle.statuses.specs.declared.Status.{Status}
use Rattle.statuses.specs.declared.Status.TheVariants as status
use Rattle.statuses.specs.Numbers.{number_of}
use Rattle.command_words.specs.declared.Command.{Command}
use Rattle.command_words.specs.declared.Command.TheVariants as commands
use Rattle.commands.specs.Logs.{ShowsSome, ShowsOldLog}
use Rattle.commands.specs.Initializing.{Inits}
use Rattle.commands.specs.Migrating.{Migrates}
use Rattle.store_commands.specs.Telling.{TellsStatus}
use Rattle.store_commands.specs.Finding.{FindsHits}
use Rattle.store_commands.specs.Piping.{Pipes}
use Rattle.atuin_main.specs.Outside.{Outside}
use Rattle.atuin_main.specs.Running.{Runs}

-- ---- done

-- the command did all that it says
abbrev pub IsDone : Command → (key_text : List ℕ) → (old new : Outside) → Type 0
IsDone commands.Init key_text old new = Inits status.Done old.disk new.disk old.rand new.rand old.clock new.clock
IsDone commands.Pipe key_text old new = Pipes (Ok tt) key_text old.disk new.disk (supplies old.rand old.clock) (supplies new.rand new.clock) (pipe old.source old.sink) (pipe new.source new.sink)
IsDone commands.Status key_text old new = TellsStatus (Ok tt) old.disk new.disk old.sink new.sink
IsDone (commands.Search query) key_text old new = FindsHits (Ok tt) key_text (query_seen query) old.disk new.disk old.sink new.sink
IsDone commands.Migrate key_text old new = Migrates (Ok tt) old.disk new.disk old.second new.second old.sink new.sink

-- ---- the key's text

-- a command that works under a key was handed a text that tells none
abbrev pub HasNoKey : Command → (key_text : List ℕ) → Type 0
HasNoKey commands.Pipe key_text = key_of key_text ≡ None
HasNoKey (commands.Search query) key_text = key_of key_text ≡ None
HasNoKey _ key_text = ⊥

-- ---- counts of faults

-- the source of a session failed
abbrev pub SourceFailed : Command → (old new : Outside) → Type 0
SourceFailed commands.Pipe old new = Rose old.source.faults new.source.faults
SourceFailed _ old new = ⊥

-- the sink of a command that writes failed
abbrev pub SinkFailed : Command → (old new : Outside) → Type 0
SinkFailed commands.Init old new = ⊥
SinkFailed _ old new = Rose old.sink.faults new.sink.faults

-- a disk failed: before a session began, or one of the two of a copy
abbrev pub DiskFailed : Command → (old new : Outside) → Type 0
DiskFailed commands.Pipe old new = Rose old.disk.faults new.disk.faults × (new.source ≡ old.source) × (new.sink ≡ old.sink)
DiskFailed commands.Migrate old new = Rose old.disk.faults new.disk.faults ⊎ Rose old.second.faults new.second.faults
DiskFailed _ old new = Rose old.disk.faults new.disk.faults

-- the random source failed, of which a host was to be drawn
abbrev pub RandFailed : Command → (old new : Outside) → Type 0
RandFailed commands.Init old new = Rose old.rand.faults new.rand.faults
RandFailed _ old new = ⊥

-- ---- what the disks show

-- a sound front of a log in this form, and behind an open gate no batch that goes on with it
abbrev pub ShowsDamage : Form → DiskSeen → Type 0
ShowsDamage form disk = (offset : ℕ) × Tells disk (λ d. DamagedAt form d.shows offset)

-- in the form that the command reads
abbrev pub HasDamage : Command → Outside → Type 0
HasDamage commands.Init old = ⊥
HasDamage commands.Migrate old = ShowsDamage old_form old.disk
HasDamage _ old = ShowsDamage current_form old.disk

-- there is something where a log was to be made, or no log where one was to be read
abbrev pub HasWrongDisk : Command → Outside → Type 0
HasWrongDisk commands.Init old = ShowsSome old.disk
HasWrongDisk commands.Migrate old = Tells old.disk (λ d. NotOld d.shows) ⊎ (ShowsOldLog old.disk × ShowsSome old.second)
HasWrongDisk _ old = Tells old.disk (λ d. NotALog d.shows)

-- there is a log that `migrate` alone reads
abbrev pub HasOldLog : Command → Outside → Type 0
HasOldLog commands.Init old = ⊥
HasOldLog commands.Migrate old = ⊥
HasOldLog _ old = Tells old.disk (λ d. IsOldLog d.shows)

-- ---- what a session reads

-- this holds of the payloads and the rest that the source has, where it tells them
abbrev pub ReadsSo : Outside → (List (List ℕ) → List ℕ → Type 0) → Type 0
ReadsSo old so = (payloads : List (List ℕ)) (rest : List ℕ) → CutAfter most_requests payloads rest → old.source.left ≡ Some (frames payloads ++ rest) → so payloads rest

-- fewer frames than a session answers, and then a part of one, or one that is too long
abbrev pub HasFaultyFrame : Command → Outside → Type 0
HasFaultyFrame commands.Pipe old = ReadsSo old (λ payloads rest. (length payloads < most_requests) × (CutFrame rest ⊎ LongFrame rest))
HasFaultyFrame _ old = ⊥

-- as many frames as a session answers
abbrev pub HasManyFrames : Command → Outside → Type 0
HasManyFrames commands.Pipe old = ReadsSo old (λ payloads rest. length payloads ≡ most_requests)
HasManyFrames _ old = ⊥

-- ---- all of them

-- why a command ends so; want of memory may come at any time
abbrev pub CommandEnds : Status → Command → (key_text : List ℕ) → (old new : Outside) → Type 0
CommandEnds status.Done command key_text old new = IsDone command key_text old new
CommandEnds status.FaultyWords command key_text old new = ⊥
CommandEnds status.FaultyKeyText command key_text old new = HasNoKey command key_text × (new ≡ old)
CommandEnds status.SourceFault command key_text old new = SourceFailed command old new
CommandEnds status.SinkFault command key_text old new = SinkFailed command old new
CommandEnds status.DiskFault command key_text old new = DiskFailed command old new
CommandEnds status.DamagedLog command key_text old new = HasDamage command old
CommandEnds status.WrongDisk command key_text old new = HasWrongDisk command old
CommandEnds status.NoMemory command key_text old new = Unit {0}
CommandEnds status.RandFault command key_text old new = RandFailed command old new
CommandEnds status.FaultyFrame command key_text old new = HasFaultyFrame command old
CommandEnds status.SessionLimit command key_text old new = HasManyFrames command old
CommandEnds status.OldLog command key_text old new = HasOldLog command old

-- why the program does, where the words are this command or none
abbrev pub ProgramEnds : Status → Option Command → (key_text : List ℕ) → (old new : Outside) → Type 0
ProgramEnds ended (Some command) key_text old new = CommandEnds ended command key_text old new
ProgramEnds status.FaultyWords None key_text old new = new ≡ old
ProgramEnds status.NoMemory None key_text old new = new ≡ old
ProgramEnds _ None key_text old new = ⊥

-- ---- the laws

-- where the program does this and tells this status, the status has its cause
abbrev pub TellsCause : Type 0
TellsCause = (ended : Status) (command : Option Command) (key_text : List ℕ) (old new : Outside) → Runs command (number_of ended) key_text old new → ProgramEnds ended command key_text old new

-- it ends by no other number
abbrev pub EndsByStatus : Type 0
EndsByStatus = (number : ℕ) (command : Option Command) (key_text : List ℕ) (old new : Outside) → Runs command number key_text old new → (ended : Status) × (number ≡ number_of ended)
