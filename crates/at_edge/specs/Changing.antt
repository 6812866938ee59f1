-- The history of a disk in memory, by the calls that succeeded, and what it keeps of the moment.
use Rattle.std.specs.Prelude.{◌≡◌, ℕ, Bool, true, false, List, Option, Some, None, IfSome}
use Rattle.disk_rules.specs.Disk.{Disk, IsDisk}
use Rattle.disk_rules.specs.Calls.{DiskCall, Write, Sync}
use Rattle.disk_rules.specs.History.{History}
use Rattle.at_edge.specs.Crashing.{blotted}
use Rattle.at_edge.specs.declared.medium.Change.{Change}
use Rattle.at_edge.specs.declared.medium.Change.TheVariants.{Written, Synced}

-- a call that was kept
abbrev pub call_of : Change → DiskCall
call_of (Written at bytes) = Write at bytes.items
call_of Synced = Sync

-- it is told, or not
abbrev pub told : Bool → History → Option History
told true history = Some history
told false history = None

-- where it is told, it is a disk
pub told_is_disk : (tells : Bool) (history : History) → IsDisk history.now → IfSome (told tells history) (λ h. IsDisk h.now)
told_is_disk true history is = is
told_is_disk false history is = tt

-- the bytes that are kept of a disk: what it shows, what was synced, and that with every write since blotted
pub record KeepsMoment (disk : Disk) (shows synced blots : List ℕ) : Type 0 where
  pub shows_are : shows ≡ disk.shows
  pub synced_are : synced ≡ disk.synced
  pub blots_are : blots ≡ blotted disk.written disk.synced
