-- A log as bytes on a disk that may tell: a prefix, the closed gate behind it, and maybe a batch in doubt.
use Rattle.std.specs.Prelude.{◌≡◌, ℕ, ◌+◌, ◌-◌, ◌<◌, ◌^◌, ◌⊎◌, List, ◌∷◌, ◌++◌, length, take, Result, Ok, Err}
use Rattle.disk_rules.specs.Disk.{Disk}
use Rattle.disk_rules.specs.Append.{IsSettled, IsInDoubt}
use Rattle.at_edge.specs.Storing.{DiskSeen, Tells, Arrives, IsMeasurable}

-- ---- what a disk holds

-- a settled prefix with its closed gate at this offset
pub record IsAtRest (gate : ℕ) (disk : Disk) : Type 0 where
  pub prefix : List ℕ
  pub gate_is : gate ≡ length prefix
  pub settled : IsSettled prefix disk
  pub fits : gate + 1 < 2 ^ 64

-- a batch of so many bytes in doubt behind the closed gate at this offset
pub record IsDoubtful (gate count : ℕ) (disk : Disk) : Type 0 where
  pub prefix : List ℕ
  pub payload : List ℕ
  pub gate_is : gate ≡ length prefix
  pub count_is : count ≡ length payload
  pub doubt : IsInDoubt prefix payload disk
  pub fits : gate + 1 + count + 1 < 2 ^ 64

-- at each moment of an append: settled as before, in doubt, or settled with the batch
abbrev pub IsUncertain : List ℕ → List ℕ → Disk → Type 0
IsUncertain prefix payload disk = IsSettled prefix disk ⊎ (IsInDoubt prefix payload disk ⊎ IsSettled (prefix ++ 1 ∷ payload) disk)

-- ---- the two halves of an append

-- the bytes of a batch behind its gate, less the closed gate at their end
abbrev pub payload_in : List ℕ → List ℕ
payload_in bytes = take (length bytes - 1) bytes

-- where the disk tells, its prefix ends at the gate and is settled
abbrev pub SettledAt : DiskSeen → ℕ → List ℕ → Type 0
SettledAt seen gate prefix = (length prefix ≡ gate) × Tells seen (IsSettled prefix)

abbrev pub DoubtfulAt : DiskSeen → ℕ → List ℕ → List ℕ → Type 0
DoubtfulAt seen gate prefix payload = (length prefix ≡ gate) × Tells seen (IsInDoubt prefix payload)

-- the answer of writing a batch and a closed gate behind the gate, and a sync
abbrev pub Stages : {T E : Type 0} → DiskSeen → DiskSeen → Result T E → ℕ → List ℕ → Type 0
Stages old new (Ok _) gate bytes = (prefix : List ℕ) → SettledAt old gate prefix
    → Arrives (IsUncertain prefix (payload_in bytes)) (λ disk. IsInDoubt prefix (payload_in bytes) disk × IsMeasurable disk) old.history new.history
Stages old new (Err _) gate bytes = (prefix : List ℕ) → SettledAt old gate prefix → Arrives (IsSettled prefix) (IsSettled prefix) old.history new.history

-- the answer of opening the gate, and a sync
abbrev pub OpensGate : {T E : Type 0} → DiskSeen → DiskSeen → Result T E → ℕ → Type 0
OpensGate old new (Ok _) gate = (prefix payload : List ℕ) → DoubtfulAt old gate prefix payload → Arrives (IsUncertain prefix payload) (IsSettled (prefix ++ 1 ∷ payload)) old.history new.history
OpensGate old new (Err _) gate = (prefix payload : List ℕ) → DoubtfulAt old gate prefix payload → Arrives (IsUncertain prefix payload) (IsInDoubt prefix payload) old.history new.history
