-- What is drawn for a record, and what has to hold where it is made of that.
use Rattle.std.specs.Prelude.{◌≡◌, ℕ, List, [], drop, length, Option, Some, Result, Ok, Err}
use Rattle.definitions.specs.Counts.{Rose}
use Rattle.definitions.specs.Spelling.{IsBytes}
use Rattle.payload_rules.specs.Payloads.{Payload, tag_of}
use Rattle.record_rules.specs.Records.{Entry}
use Rattle.record_rules.specs.Journal.{chain}
use Rattle.step_rules.specs.Calls.{Call, CallFits}
use Rattle.step_rules.specs.Sealing.{keyed_store}
use Rattle.step_rules.specs.Step.{record_draft, drawn_id, Ready}
use Rattle.record_seal.proofs.StoreSealing.{record_sealing}
use Rattle.at_edge.specs.Drawing.{EntropySeen, Drew}
use Rattle.store_core.specs.declared.recording.Drawn.{Drawn}
use Rattle.store_core.specs.Store.{StoreSeen, IsStoreOf}

-- the id is made of this time and the first ten of these bytes, and the others are those for the seal
pub record IsDrawnOf (now : ℕ) (bytes : List ℕ) (drawn : Drawn) : Type 0 where
  pub many : length bytes ≡ 106
  pub id : drawn.id ≡ drawn_id now bytes
  pub seal : drawn.seal ≡ drop 10 bytes

-- such bytes were drawn
pub record RecordDrawn (old new : EntropySeen) (now : ℕ) (drawn : Drawn) : Type 0 where
  pub bytes : List ℕ
  pub are : IsBytes bytes
  pub drew : Drew old new bytes
  pub of : IsDrawnOf now bytes drawn

-- or nothing was drawn, and a fault was counted
abbrev pub DrawsRecord : {E : Type 0} → EntropySeen → EntropySeen → (now : ℕ) → Result Drawn E → Type 0
DrawsRecord old new now (Ok drawn) = RecordDrawn old new now drawn
DrawsRecord old new now (Err _) = Drew old new [] × Rose old.faults new.faults

-- the idx is that of the next record of this payload's chain here
abbrev pub IsNextIdx : StoreSeen → Payload → ℕ → Type 0
IsNextIdx store payload idx = (journal doubt : List Entry) → IsStoreOf store journal doubt → idx ≡ length (chain journal 0 store.log.host (tag_of payload))

-- A payload may be recorded from this journal, as this call drafts it, at this idx: nothing but the id that was drawn can refuse it.
pub record MayRecord (store : StoreSeen) (key : List ℕ) (journal : List Entry) (call : Call) (closes : Option ℕ) (payload : Payload) (idx : ℕ) : Type 0 where
  pub keyed : store.key ≡ Some key
  pub is : IsStoreOf store journal []
  pub fits : CallFits call
  pub ready : Ready (keyed_store record_sealing store.log.host key) journal call (record_draft closes payload)
  pub next : idx ≡ length (chain journal 0 store.log.host (tag_of payload))
