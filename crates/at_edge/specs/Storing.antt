-- What is seen of a disk, and what a call does to it.
use Rattle.std.specs.Prelude.{◌≡◌, ℕ, ◌+◌, ◌<◌, ◌≤◌, ◌^◌, ◌⊎◌, List, length, take, drop, Option, Some, None, IfSome, Result, Ok, Err}
use Rattle.disk_rules.specs.Disk.{Disk}
use Rattle.disk_rules.specs.Calls.{DiskCall, MayCall, Done, FailedOrUnderWay}
use Rattle.disk_rules.specs.History.{History, Adds, Goes}
use Rattle.definitions.specs.Counts.{Rose}

-- `history`: the disk now and at each moment before, None where it doesn't tell. `faults`: how often it has failed.
pub record DiskSeen : Type 0 where
  pub history : Option History
  pub faults : ℕ

-- where the disk tells, this holds of it now
abbrev pub Tells : DiskSeen → (Disk → Type 0) → Type 0
Tells seen holds = IfSome seen.history (λ history. holds history.now)

-- ---- what a call does to the history

-- after a call that succeeded: one moment more
abbrev pub Succeeds : DiskCall → Option History → Option History → Type 0
Succeeds call None new = new ≡ None
Succeeds call (Some old) new = (history : History) × (new ≡ Some history) × Adds (Done call) old history

-- after one that failed: as before, or one moment more at which it was under way
abbrev pub Fails : DiskCall → Option History → Option History → Type 0
Fails call None new = new ≡ None
Fails call (Some old) new = (new ≡ Some old) ⊎ ((history : History) × (new ≡ Some history) × Adds (FailedOrUnderWay call) old history)

-- ---- the answers

-- nothing changed but the count, which doesn't fall
pub record Rests (old new : DiskSeen) : Type 0 where
  pub history : new.history ≡ old.history
  pub faults : old.faults ≤ new.faults

-- the answer of `len`
abbrev pub Measures : {E : Type 0} → DiskSeen → DiskSeen → Result ℕ E → Type 0
Measures old new (Ok count) = Rests old new × Tells old (λ disk. count ≡ length disk.shows)
Measures old new (Err _) = Rests old new × Rose old.faults new.faults

-- the range is there
abbrev pub MayRead : DiskSeen → ℕ → ℕ → Type 0
MayRead old at count = Tells old (λ disk. at + count ≤ length disk.shows)

-- the answer of `read_at`, whose slice then holds these bytes
abbrev pub ReadsAt : {T E : Type 0} → DiskSeen → DiskSeen → Result T E → ℕ → List ℕ → Type 0
ReadsAt old new (Ok _) at bytes = Rests old new × Tells old (λ disk. bytes ≡ take (length bytes) (drop at disk.shows))
ReadsAt old new (Err _) at bytes = Rests old new × Rose old.faults new.faults

-- the call can be made
abbrev pub MayChange : DiskSeen → DiskCall → Type 0
MayChange old call = Tells old (MayCall call)

-- the answer of a write or a sync
abbrev pub Changes : {T E : Type 0} → DiskSeen → DiskSeen → Result T E → DiskCall → Type 0
Changes old new (Ok _) call = Succeeds call old.history new.history × (old.faults ≤ new.faults)
Changes old new (Err _) call = Fails call old.history new.history × (old.faults ≤ new.faults) × Rose old.faults new.faults

-- what the disk shows has a length of 64 bits
abbrev pub IsMeasurable : Disk → Type 0
IsMeasurable disk = length disk.shows < 2 ^ 64

-- ---- runs of calls

-- each further moment is as the first says, and the last one as the second says; a disk that doesn't tell never does
abbrev pub Arrives : (Disk → Type 0) → (Disk → Type 0) → Option History → Option History → Type 0
Arrives through at_end None new = new ≡ None
Arrives through at_end (Some old) new = (history : History) × (new ≡ Some history) × Goes through old history × at_end history.now
