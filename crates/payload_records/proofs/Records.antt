-- The record of a payload is within the limits, and opens to it.
use Rattle.std.proofs.Common.{◌≡◌, ℕ, ◌≤◌, ◌<◌, ◌^◌, List, length, Some, refl, arith}
use Rattle.definitions.specs.Spelling.{IsBytes}
use Rattle.payload_rules.specs.Payloads.{Payload, HistoryCreate, HistoryDelete, KvSet, KvDelete, AliasSet, AliasDelete, payload_version, PayloadFits, TextsFit, written_payload}
use Rattle.payload_rules.proofs.Written.{payload_spelled}
use Rattle.record_rules.specs.Records.{record_weight}
use Rattle.record_rules.specs.Journal.{RecordFits}
use Rattle.step_rules.specs.Store.{payload_text_bytes}
use Rattle.step_rules.specs.Sealing.{keyed_store}
use Rattle.step_rules.proofs.Following.{tag_fits, version_length}
use Rattle.step_rules.proofs.Sealing.{keyed_store_holds}
use Rattle.step_rules.proofs.Texts.{payload_within}
use Rattle.payload_forms.specs.Writing.{text_total}
use Rattle.record_seal.proofs.StoreSealing.{record_sealing, sealed_text_short, key_text_short}
use Rattle.payload_records.specs.declared.sealing.Stamp.{Stamp}
use Rattle.payload_records.specs.Heads.{most_written_bytes, head_for, record_for}

same_total : (payload : Payload) → text_total payload ≡ payload_text_bytes payload
same_total (HistoryCreate h) = refl
same_total (HistoryDelete id) = refl
same_total (KvSet namespace key value) = refl
same_total (KvDelete namespace key) = refl
same_total (AliasSet name value) = refl
same_total (AliasDelete name) = refl

-- the texts have no more bytes than are written
pub texts_within : (payload : Payload) → PayloadFits payload → TextsFit payload → length (written_payload payload) ≤ most_written_bytes → text_total payload < 2 ^ 31
texts_within payload fits texts short =
    let within = payload_within payload (payload_version payload) (written_payload payload) (payload_spelled payload fits texts) in
    omega (arith, same_total payload, within, short)

module _ (key : List ℕ) (stamp : Stamp) (payload : Payload) (drawn : List ℕ) (short : length (written_payload payload) ≤ most_written_bytes) (many : length drawn ≡ 96) where
  weighs : record_weight (record_for key stamp payload drawn) ≡ (keyed_store record_sealing stamp.host key).weight_of payload
  weighs = (keyed_store_holds record_sealing stamp.host key).seals_well.weighs (head_for stamp payload) payload stamp.timestamp drawn refl refl many

  pub record_fits : RecordFits (record_for key stamp payload drawn)
  record_fits =
      let heavy = weighs in
      let version = version_length (payload_version payload) in
      let tag = tag_fits payload in
      let sealed = sealed_text_short (length (written_payload payload)) in
      let wrapped = key_text_short in
      record {
        host_name = omega arith;
        version = omega (arith, version);
        tag = tag;
        weight = omega (arith, heavy, short, tag, sealed, wrapped);
      }

  pub record_opens : length key ≡ 32 → IsBytes key → PayloadFits payload → TextsFit payload → IsBytes (written_payload payload) → IsBytes drawn
      → (keyed_store record_sealing stamp.host key).opens (record_for key stamp payload drawn) ≡ Some payload
  record_opens key_long key_are fits texts written drawn_are =
      (keyed_store_holds record_sealing stamp.host key).opens_its_seals key_long key_are (head_for stamp payload) payload stamp.timestamp drawn refl refl fits texts written many drawn_are
