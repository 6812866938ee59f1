-- An old log that is copied to a second disk, and how far.
use Rattle.std.specs.Prelude.{◌≡◌, ℕ, ◌≤◌, ◌⊎◌, List, ◌++◌, length, Result, Ok, Err}
use Rattle.definitions.specs.Counts.{Rose}
use Rattle.record_rules.specs.Records.{Event}
use Rattle.log_rules.specs.Opened.{opened_journal}
use Rattle.log_rules.specs.Log.{old_form, NotOld, DamagedAt}
use Rattle.at_edge.specs.Storing.{DiskSeen, Tells, Rests}
use Rattle.at_edge.specs.Writing.{SinkSeen, Holds, Stopped}
use Rattle.printing.specs.Lines.{entries_line}
use Rattle.record_log.specs.Creating.{HasCause, WasEmpty}
use Rattle.record_log.specs.OldLogs.{OldSeen, ShowsOld}
use Rattle.record_log.specs.Copying.{IsFirstPart}
use Rattle.record_log.specs.declared.create.CreateFail.{CreateFail}
use Rattle.record_log.specs.declared.create.CreateFail.TheVariants as creating
use Rattle.record_log.specs.declared.old_log.OldFail.{OldFail}
use Rattle.record_log.specs.declared.old_log.OldFail.TheVariants as opening
use Rattle.record_log.specs.declared.copying.CopyFail.{CopyFail}
use Rattle.record_log.specs.declared.copying.CopyFail.TheVariants as copying
use Rattle.commands.specs.Logs.{HoldsJournal, DoubtsJournal, IsOldLogOf, ShowsOldLog}
use Rattle.statuses.specs.declared.Status.{Status}
use Rattle.statuses.specs.declared.Status.TheVariants as status
use Rattle.commands.specs.declared.migrating.MigrateFail.{MigrateFail}
use Rattle.commands.specs.declared.migrating.MigrateFail.TheVariants as fails

-- ---- refusals

abbrev pub not_opened : OldFail → MigrateFail
not_opened opening.NotOld = fails.NotOld
not_opened (opening.Damaged offset) = fails.Damaged offset
not_opened opening.DiskFault = fails.OldFault
not_opened opening.NoMemory = fails.NoMemory

abbrev pub not_made : CreateFail → MigrateFail
not_made (creating.NotEmpty count) = fails.NotEmpty count
not_made creating.DiskFault = fails.MakeFault
not_made creating.NoMemory = fails.NoMemory

abbrev pub not_copied : CopyFail → MigrateFail
not_copied copying.OldFault = fails.OldFault
not_copied copying.NewFault = fails.CopyFault
not_copied copying.NoMemory = fails.NoMemory

-- what the program's status tells of each
abbrev pub status_of_migrate : MigrateFail → Status
status_of_migrate fails.NotOld = status.WrongDisk
status_of_migrate (fails.Damaged offset) = status.DamagedLog
status_of_migrate (fails.NotEmpty count) = status.WrongDisk
status_of_migrate fails.OldFault = status.DiskFault
status_of_migrate fails.MakeFault = status.DiskFault
status_of_migrate fails.CopyFault = status.DiskFault
status_of_migrate fails.SinkFault = status.SinkFault
status_of_migrate fails.NoMemory = status.NoMemory

-- ---- how far

-- of an old log of these events, which the bytes show up to its closed gate, the second disk holds the first batches
pub record HoldsPart (shows : List ℕ) (gate host : ℕ) (events : List Event) (second : DiskSeen) : Type 0 where
  pub before : List Event
  pub part : IsFirstPart shows gate events before
  pub holds : Tells second (HoldsJournal host (opened_journal before))

-- and a crash may or may not leave the one that comes next, too
pub record DoubtsPart (shows : List ℕ) (gate host : ℕ) (events : List Event) (second : DiskSeen) : Type 0 where
  pub before : List Event
  pub more : List Event
  pub part : IsFirstPart shows gate events before
  pub next : IsFirstPart shows gate events (before ++ more)
  pub doubts : Tells second (DoubtsJournal host (opened_journal before) (opened_journal more))

-- a log was made on the second disk, which was empty
pub record WasMade (old new : DiskSeen) : Type 0 where
  pub empty : WasEmpty old
  pub kept : old.faults ≤ new.faults

-- ---- an old log that was opened

-- all of its batches were copied
pub record MakesCopy (count : ℕ) (from : OldSeen) (old new : DiskSeen) : Type 0 where
  pub made : WasMade old new
  pub copied : (events : List Event) → ShowsOld from events → (count ≡ length events) × Tells new (HoldsJournal from.host (opened_journal events))

-- the first ones, or those and perhaps one more
pub record MakesPart (May : List ℕ → ℕ → ℕ → List Event → DiskSeen → Type 0) (from : OldSeen) (old new : DiskSeen) : Type 0 where
  pub made : WasMade old new
  pub copied : (events : List Event) → (shown : ShowsOld from events) → May shown.history.now.shows from.gate from.host events new

abbrev pub MayHold : List ℕ → ℕ → ℕ → List Event → DiskSeen → Type 0
MayHold shows gate host events second = HoldsPart shows gate host events second ⊎ DoubtsPart shows gate host events second

-- why not all, where the old log's disk is so at the end
abbrev pub StopsCopy : MigrateFail → (from : OldSeen) → (first : DiskSeen) → (old new : DiskSeen) → Type 0
StopsCopy (fails.NotEmpty count) from first old new = HasCause (creating.NotEmpty count) old new
StopsCopy fails.OldFault from first old new = MakesPart HoldsPart from old new × Rose from.disk.faults first.faults
StopsCopy fails.MakeFault from first old new = Rose old.faults new.faults
StopsCopy fails.CopyFault from first old new = MakesPart MayHold from old new × Rose old.faults new.faults
StopsCopy fails.NoMemory from first old new = MakesPart HoldsPart from old new
StopsCopy _ from first old new = ⊥

-- the line is printed, or a first part of it where the sink failed
abbrev pub PrintsCount : Result (Unit {0}) MigrateFail → SinkSeen → SinkSeen → (count : ℕ) → Type 0
PrintsCount (Ok _) old new count = Holds old new (entries_line count)
PrintsCount (Err fails.SinkFault) old new count = (n : ℕ) × Stopped old new (entries_line count) n
PrintsCount (Err fails.NoMemory) old new count = new ≡ old
PrintsCount (Err _) old new count = ⊥

-- ---- the command

-- where the first disk tells, it shows an old log of so many entries, and the second holds the log of their journal
abbrev pub CopiesAll : (count : ℕ) → (first second : DiskSeen) → Type 0
CopiesAll count first second =
    Tells first (λ d. (host : ℕ) × ((events : List Event) × IsOldLogOf host events d.shows × (count ≡ length events) × Tells second (HoldsJournal host (opened_journal events))))

-- or of a first part
abbrev pub CopiesPart : (List ℕ → ℕ → ℕ → List Event → DiskSeen → Type 0) → (first second : DiskSeen) → Type 0
CopiesPart May first second =
    Tells first (λ d. (gate : ℕ) × ((host : ℕ) × ((events : List Event) × IsOldLogOf host events d.shows × May d.shows gate host events second)))

-- what stands on the second disk, and what was printed
abbrev pub MigratesTo : Result (Unit {0}) MigrateFail → (first last : DiskSeen) → (old new : DiskSeen) → SinkSeen → SinkSeen → Type 0
MigratesTo (Ok _) first last old new sink_old sink_new =
    (count : ℕ) × WasMade old new × CopiesAll count first new × Holds sink_old sink_new (entries_line count)
MigratesTo (Err fails.SinkFault) first last old new sink_old sink_new =
    (count : ℕ) × WasMade old new × CopiesAll count first new × ((n : ℕ) × Stopped sink_old sink_new (entries_line count) n)
MigratesTo (Err fails.NotOld) first last old new sink_old sink_new =
    Tells first (λ d. NotOld d.shows) × (new ≡ old) × (sink_new ≡ sink_old)
MigratesTo (Err (fails.Damaged offset)) first last old new sink_old sink_new =
    Tells first (λ d. DamagedAt old_form d.shows offset) × (new ≡ old) × (sink_new ≡ sink_old)
MigratesTo (Err (fails.NotEmpty count)) first last old new sink_old sink_new =
    ShowsOldLog first × HasCause (creating.NotEmpty count) old new × (sink_new ≡ sink_old)
MigratesTo (Err fails.OldFault) first last old new sink_old sink_new =
    Rose first.faults last.faults × ((new ≡ old) ⊎ (WasMade old new × CopiesPart HoldsPart first new)) × (sink_new ≡ sink_old)
MigratesTo (Err fails.MakeFault) first last old new sink_old sink_new =
    ShowsOldLog first × Rose old.faults new.faults × (sink_new ≡ sink_old)
MigratesTo (Err fails.CopyFault) first last old new sink_old sink_new =
    Rose old.faults new.faults × WasMade old new × CopiesPart MayHold first new × (sink_new ≡ sink_old)
MigratesTo (Err fails.NoMemory) first last old new sink_old sink_new =
    ((new ≡ old) ⊎ ((WasMade old new × CopiesPart HoldsPart first new) ⊎ ((count : ℕ) × WasMade old new × CopiesAll count first new))) × (sink_new ≡ sink_old)

-- and the first disk is only read
pub record Migrates (result : Result (Unit {0}) MigrateFail) (first last : DiskSeen) (old new : DiskSeen) (sink_old sink_new : SinkSeen) : Type 0 where
  pub rests : Rests first last
  pub ends : MigratesTo result first last old new sink_old sink_new
