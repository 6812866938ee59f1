-- Laws of seals: what is sealed opens to its payload, a record opens to one payload at most, which one can be computed, and that
-- is what opening answers; so all that a store asks of them holds.
use Rattle.std.specs.Prelude.{◌≡◌, ◌↔◌, ℕ, List, length, Some, Result}
use Rattle.base64.specs.GeneralPurpose.{IsBytes}
use Rattle.plain_types.specs.Buffer.{Buffer}
use Rattle.record_rules.specs.Records.{SealedRecord}
use Rattle.record_seal.specs.Computing.{opened_payload}
use Rattle.record_seal.specs.Seals.{seal_of, OpensToBytes}
use Rattle.record_seal.specs.StoreSealing.{IsRecordSealing, TellsOpening}
use Rattle.record_seal.specs.Unsealing.{Unseals}
use Rattle.record_seal.specs.declared.fail.SealFail.{SealFail}
use Rattle.step_rules.specs.Sealing.{Sealing}
use Rattle.step_rules.specs.Store.{Head, sealed_record}

abbrev pub SealOpens : Type 0
SealOpens = (key : List ℕ) (head : Head) (payload random : List ℕ) (now : ℕ) → IsBytes payload → IsBytes random → length random ≡ 96
    → OpensToBytes key (sealed_record head now (seal_of key head payload random)) payload

abbrev pub OpensToOne : Type 0
OpensToOne = (key : List ℕ) (r : SealedRecord) (payload other : List ℕ) → OpensToBytes key r payload → OpensToBytes key r other → payload ≡ other

abbrev pub PayloadIsComputed : Type 0
PayloadIsComputed = (key : List ℕ) (r : SealedRecord) (payload : List ℕ) → OpensToBytes key r payload ↔ (opened_payload key r ≡ Some payload)

-- what opening answers is the payload that is computed, or a refusal where there is none
abbrev pub UnsealsAsComputed : Type 0
UnsealsAsComputed = (key : List ℕ) (r : SealedRecord) (answer : Result Buffer SealFail) → Unseals key r answer → TellsOpening (opened_payload key r) answer

-- and all that a store asks of sealing and opening holds of these
abbrev pub MeetsSealing : Type 0
MeetsSealing = (sealing : Sealing) × IsRecordSealing sealing
