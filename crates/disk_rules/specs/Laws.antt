-- The laws of disks, as statements. Each is the contract of the function of its name.
use Rattle.std.specs.Prelude.{◌≡◌, ℕ, ◌<◌, ◌≤◌, ◌⊎◌, List, [], ◌∷◌, ◌++◌, length, get_or}
use Rattle.std.specs.List.{AllByRecursion}
use Rattle.disk_rules.specs.Disk.{Disk, IsWithin, Leaves, LeavesOnly, IsDisk, Since}
use Rattle.disk_rules.specs.Calls.{DiskCall, Write, Sync, MayCall, Done, FailedOrUnderWay, Reaches, AllDone}
use Rattle.disk_rules.specs.History.{history_of}
use Rattle.disk_rules.specs.Append.{append_calls, settle_calls, stage_calls, FailsAtGate, IsSettled, IsInDoubt, IsAsBefore, IsWithBatch}

-- what is shown is one of the bytes left
abbrev pub ShowsIsLeft : Type 0
ShowsIsLeft = (disk : Disk) → IsDisk disk → Leaves disk disk.shows

-- each call leaves a disk, whether it succeeds, fails, or is under way
abbrev pub CallsKeepDisk : Type 0
CallsKeepDisk = (call : DiskCall) (old new : Disk) → IsDisk old → MayCall call old → Done call old new ⊎ FailedOrUnderWay call old new → IsDisk new

-- after a sync that succeeds only what is shown is left, and it shows what it showed
abbrev pub SyncLeavesShown : Type 0
SyncLeavesShown = (old new : Disk) → Done Sync old new → (new.shows ≡ old.shows) × LeavesOnly new old.shows

-- a sync that fails changes nothing
abbrev pub FailedSyncLeavesAll : Type 0
FailedSyncLeavesAll = (old new : Disk) (bytes : List ℕ) → FailedOrUnderWay Sync old new → (new.shows ≡ old.shows) × (Leaves new bytes → Leaves old bytes) × (Leaves old bytes → Leaves new bytes)

-- outside its range a write touches no byte of an image: where all bytes left before had one at an offset, all that are left now have it
abbrev pub WritesStayInRange : Type 0
WritesStayInRange = (at : ℕ) (payload : List ℕ) (old new : Disk) → IsDisk old → MayCall (Write at payload) old → Done (Write at payload) old new ⊎ FailedOrUnderWay (Write at payload) old new
    → (offset byte : ℕ) → (IsWithin offset (record { at = at; count = length payload }) → ⊥) → ((left : List ℕ) → Leaves old left → (offset < length left) × (get_or left offset 0 ≡ byte))
    → (left : List ℕ) → Leaves new left → (offset < length left) × (get_or left offset 0 ≡ byte)

-- what may be left before a write may be left after it: it may not have reached the disk
abbrev pub WritesMayBeLost : Type 0
WritesMayBeLost = (at : ℕ) (payload : List ℕ) (old new : Disk) (left : List ℕ) → IsDisk old → MayCall (Write at payload) old → Done (Write at payload) old new ⊎ FailedOrUnderWay (Write at payload) old new → Leaves old left → Leaves new left

-- a history that goes on may have left what it may have left before
abbrev pub SinceGrows : Type 0
SinceGrows = (t : ℕ) (disk : Disk) (history : List Disk) (bytes : List ℕ) → Since t history bytes → Since t (disk ∷ history) bytes

-- an earlier moment counts more
abbrev pub SinceEarlier : Type 0
SinceEarlier = (t u : ℕ) (history : List Disk) (bytes : List ℕ) → t ≤ u → Since u history bytes → Since t history bytes

-- since now there is what may be left now
abbrev pub SinceNow : Type 0
SinceNow = (disk : Disk) (history : List Disk) (bytes : List ℕ) → (Since (length history) (disk ∷ history) bytes → Leaves disk bytes) × (Leaves disk bytes → Since (length history) (disk ∷ history) bytes)

-- what was left in a history of two parts was left in the later part, or in the earlier one where that has moment number t
abbrev pub SinceParts : Type 0
SinceParts = (t : ℕ) (later earlier : List Disk) (bytes : List ℕ) → Since t (later ++ earlier) bytes → Since 0 later bytes ⊎ ((t < length earlier) × Since t earlier bytes)

-- at rest a log is settled behind its prefix
abbrev pub RestIsSettled : Type 0
RestIsSettled = (prefix behind : List ℕ) (disk : Disk) → IsDisk disk → disk.written ≡ [] → disk.shows ≡ prefix ++ 0 ∷ behind → IsSettled prefix disk

-- and so it is where that much was synced, and whatever was written since begins behind the gate
abbrev pub BehindGateIsSettled : Type 0
BehindGateIsSettled = (prefix : List ℕ) (disk : Disk) → IsDisk disk → IsAsBefore prefix disk.synced → AllByRecursion (λ range. length prefix < range.at) disk.written → IsSettled prefix disk

-- a settled log stays so through the first two calls of an append, whatever fails
abbrev pub StagingStaysSettled : Type 0
StagingStaysSettled = (prefix payload : List ℕ) (old now : Disk) → IsSettled prefix old → Reaches (stage_calls (length prefix) payload) old now → IsSettled prefix now

-- at each moment of an append to a settled log, whatever fails, each image is the log as before or with the batch
abbrev pub AppendIsAllOrNothing : Type 0
AppendIsAllOrNothing = (prefix payload : List ℕ) (old now : Disk) (left : List ℕ) → IsSettled prefix old
    → Reaches (append_calls (length prefix) payload) old now → Leaves now left → IsAsBefore prefix left ⊎ IsWithBatch prefix payload left

-- and after an append that succeeded it is the log with the batch
abbrev pub AppendIsKept : Type 0
AppendIsKept = (prefix behind payload : List ℕ) (old new : Disk) (left : List ℕ) → old.shows ≡ prefix ++ 0 ∷ behind → AllDone (append_calls (length prefix) payload) old new → Leaves new left → IsWithBatch prefix payload left

-- the disk is at rest then, and the log settled behind a prefix that has the batch
abbrev pub AppendEndsSettled : Type 0
AppendEndsSettled = (prefix payload : List ℕ) (old new : Disk) → IsSettled prefix old → AllDone (append_calls (length prefix) payload) old new → (new.written ≡ []) × IsSettled (prefix ++ 1 ∷ payload) new

-- at each moment of an append the log is settled as before, or the batch is in doubt, or the log is settled with the batch
abbrev pub AppendIsSettledOrInDoubt : Type 0
AppendIsSettledOrInDoubt = (prefix payload : List ℕ) (old now : Disk) → IsSettled prefix old
    → Reaches (append_calls (length prefix) payload) old now → IsSettled prefix now ⊎ (IsInDoubt prefix payload now ⊎ IsSettled (prefix ++ 1 ∷ payload) now)

-- with its first two calls done an append is in doubt, and stays so where the write of the gate or the sync behind it fails, however often
abbrev pub StagedIsInDoubt : Type 0
StagedIsInDoubt = (prefix behind payload : List ℕ) (old new : Disk) → IsDisk old → old.shows ≡ prefix ++ 0 ∷ behind → AllDone (stage_calls (length prefix) payload) old new → IsInDoubt prefix payload new

abbrev pub DoubtStays : Type 0
DoubtStays = (prefix payload : List ℕ) (old now : Disk) → IsInDoubt prefix payload old → FailsAtGate (length prefix) old now → IsInDoubt prefix payload now

-- at each moment of settling it each image is the log as before or with the batch
abbrev pub SettleIsAllOrNothing : Type 0
SettleIsAllOrNothing = (prefix payload : List ℕ) (old now : Disk) (left : List ℕ) → IsInDoubt prefix payload old → Reaches (settle_calls (length prefix)) old now → Leaves now left → IsAsBefore prefix left ⊎ IsWithBatch prefix payload left

-- and after it was settled it is the log with the batch
abbrev pub SettleIsKept : Type 0
SettleIsKept = (prefix payload : List ℕ) (old new : Disk) (left : List ℕ) → IsInDoubt prefix payload old → AllDone (settle_calls (length prefix)) old new → Leaves new left → IsWithBatch prefix payload left

-- the disk is at rest then, and the log settled behind a prefix that has the batch
abbrev pub SettleEndsSettled : Type 0
SettleEndsSettled = (prefix payload : List ℕ) (old new : Disk) → IsInDoubt prefix payload old → AllDone (settle_calls (length prefix)) old new → (new.written ≡ []) × IsSettled (prefix ++ 1 ∷ payload) new

-- whatever calls succeeded, a disk that began with bytes that were synced is a disk
abbrev pub CallsMakeDisk : Type 0
CallsMakeDisk = (first : List ℕ) (calls : List DiskCall) → IsDisk (history_of first calls).now
