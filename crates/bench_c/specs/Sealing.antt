-- What the exports that seal and open leave.
use Rattle.std.specs.Prelude.{◌≡◌, ℕ, ◌+◌, ◌*◌, ◌^◌, List, ◌++◌, length, drop, codes}
use Rattle.record_rules.specs.Records.{SealedRecord}
use Rattle.record_seal.specs.Seals.{seal_of, OpensToBytes}
use Rattle.step_rules.specs.Store.{Head, Seal, sealed_record}

-- record id 1 of host 1
abbrev pub bench_head : ℕ → Head
bench_head idx = record { id = 1; idx = idx; version = codes "v0"; tag = codes "history"; host = 1 }

abbrev pub bench_record : ℕ → (sealed wrapped : List ℕ) → SealedRecord
bench_record idx sealed wrapped = sealed_record (bench_head idx) 0 (record { sealed = sealed; wrapped = wrapped })

-- nothing, or the two texts of the seal and their lengths
pub data LeavesSeal (key drawn : List ℕ) (idx : ℕ) (payload old : List ℕ) (answer : ℕ) (new : List ℕ) : Type 0 where
  not_sealed : answer ≡ 0 → new ≡ old → LeavesSeal key drawn idx payload old answer new
  sealed : (made : Seal) → made ≡ seal_of key (bench_head idx) payload drawn
      → answer ≡ length made.sealed * 2 ^ 32 + length made.wrapped
      → new ≡ made.sealed ++ (made.wrapped ++ drop (length made.sealed + length made.wrapped) old)
      → LeavesSeal key drawn idx payload old answer new

-- nothing, or a payload that the record opens to, and its length
pub data LeavesPayload (key : List ℕ) (idx : ℕ) (sealed wrapped old : List ℕ) (answer : ℕ) (new : List ℕ) : Type 0 where
  not_opened : answer ≡ 0 → new ≡ old → LeavesPayload key idx sealed wrapped old answer new
  opened : (payload : List ℕ) → OpensToBytes key (bench_record idx sealed wrapped) payload → answer ≡ length payload
      → new ≡ payload ++ drop (length payload) old → LeavesPayload key idx sealed wrapped old answer new
