-- A log that stands on a disk, and why none is opened.
use Rattle.std.specs.Prelude.{◌≡◌, ℕ, ◌⊎◌, ◌≤◌, List, Option, Some, None, Result, Ok, Err, ⊤}
use Rattle.definitions.specs.Counts.{Rose}
use Rattle.record_rules.specs.Records.{Event}
use Rattle.log_rules.specs.Opened.{opened_journal}
use Rattle.log_rules.specs.Log.{current_form, old_form, HasHeader, NotALog, IsOldLog, DamagedAt, StandsFor}
use Rattle.disk_rules.specs.Disk.{Leaves}
use Rattle.disk_rules.specs.Calls.{Sync}
use Rattle.disk_rules.specs.History.{History}
use Rattle.at_edge.specs.Storing.{DiskSeen, Tells, Succeeds, Fails, Arrives}
use Rattle.log_check.specs.Walks.{Walked}
use Rattle.record_log.specs.Journals.{LogSeen, HasJournal}
use Rattle.record_log.specs.declared.headers.Header.{Header}
use Rattle.record_log.specs.declared.headers.Header.TheVariants.{Current, Old, Neither}
use Rattle.record_log.specs.declared.opening.OpenFail.{OpenFail}
use Rattle.record_log.specs.declared.opening.OpenFail.TheVariants as fails

-- ---- headers

-- the header with which the bytes begin
abbrev pub BeginsWith : Header → List ℕ → Type 0
BeginsWith (Current host) shows = HasHeader current_form shows host
BeginsWith (Old host) shows = HasHeader old_form shows host
BeginsWith Neither shows = NotALog shows

-- bytes with a header have at least 33 bytes
abbrev pub IsLong : Header → ℕ → Type 0
IsLong (Current host) count = 33 ≤ count
IsLong (Old host) count = 33 ≤ count
IsLong Neither count = ⊤

-- that of what the disk shows
abbrev pub ReadsFirst : {E : Type 0} → Result Header E → DiskSeen → DiskSeen → Type 0
ReadsFirst (Ok header) old new = Tells old (λ d. BeginsWith header d.shows)
ReadsFirst (Err _) old new = Rose old.faults new.faults

-- ---- the log that a disk shows

-- its host and the offset of its closed gate, or why there is none
abbrev pub Finds : Result (ℕ × ℕ) OpenFail → DiskSeen → DiskSeen → Type 0
Finds (Ok found) old new = Walked current_form old found.0 found.1
Finds (Err fails.NotALog) old new = Tells old (λ d. NotALog d.shows)
Finds (Err (fails.Damaged offset)) old new = Tells old (λ d. DamagedAt current_form d.shows offset)
Finds (Err fails.DiskFault) old new = Rose old.faults new.faults
Finds (Err fails.NoMemory) old new = ⊤
Finds (Err fails.OldLog) old new = Tells old (λ d. IsOldLog d.shows)

-- ---- opening

-- the disk was synced, and nothing else happened, but that its count may have risen
pub record Synced (old new : DiskSeen) : Type 0 where
  pub history : Succeeds Sync old.history new.history
  pub faults : old.faults ≤ new.faults

-- or the sync failed
pub record MaySync (old new : DiskSeen) : Type 0 where
  pub history : Succeeds Sync old.history new.history ⊎ Fails Sync old.history new.history
  pub faults : old.faults ≤ new.faults

-- what a crash may leave at each further moment it might have left at the first
abbrev pub LeavesNoMore : Option History → Option History → Type 0
LeavesNoMore None new = new ≡ None
LeavesNoMore (Some old) new = Arrives (λ disk. (left : List ℕ) → Leaves disk left → Leaves old.now left) (λ _. Unit {0}) (Some old) new

-- the disk showed a sound log of these events, which the log now is: nothing is in doubt, and a crash leaves that journal alone
pub record Opened (old : DiskSeen) (log : LogSeen) : Type 0 where
  pub events : List Event
  pub journal_is : HasJournal log (opened_journal events)
  pub shown : Tells old (λ d. StandsFor current_form d.shows log.host (opened_journal events))
  pub synced : Synced old log.disk

-- why no log was opened, by what the disk shows, and what was done to it
abbrev pub OpenCause : OpenFail → DiskSeen → DiskSeen → Type 0
OpenCause fails.NotALog old new = Tells old (λ d. NotALog d.shows) × Synced old new
OpenCause (fails.Damaged offset) old new = Tells old (λ d. DamagedAt current_form d.shows offset) × Synced old new
OpenCause fails.DiskFault old new = Rose old.faults new.faults × MaySync old new
OpenCause fails.NoMemory old new = Synced old new
OpenCause fails.OldLog old new = Tells old (λ d. IsOldLog d.shows) × Synced old new
