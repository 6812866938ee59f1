-- A batch that is ready to be written: the offset of the gate behind which it goes, and its body.
use Rattle.std.specs.Prelude.{◌≡◌, ℕ, List, [], ◌∷◌, ◌++◌, length}
use Rattle.std.specs.Int.{w32, to_be_bytes}
use Rattle.log_rules.specs.Log.{batch_digest}

pub record ReadyBatch : Type 0 where
  pub offset : ℕ
  pub body : List ℕ

-- the bytes behind the gate: the body's length, the body, and its digest
abbrev pub batch_payload : ReadyBatch → List ℕ
batch_payload batch = to_be_bytes w32 (length batch.body) ++ batch.body ++ batch_digest batch.offset batch.body

-- and a closed gate
abbrev pub closed_batch : ReadyBatch → List ℕ
closed_batch batch = batch_payload batch ++ 0 ∷ []

-- these bytes are a ready batch's, whose body has so many
pub record IsReady (batch : ReadyBatch) (count : ℕ) (bytes : List ℕ) : Type 0 where
  pub count_is : count ≡ length batch.body
  pub bytes_are : bytes ≡ closed_batch batch
