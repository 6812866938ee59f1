-- Sealing and opening under a key. What seals and opens bytes is handed in, with all that has to hold of it, which whatever seals
-- has to show. It is said here alone; and what a store makes of it is one value.
use Rattle.std.specs.Prelude.{◌≡◌, ℕ, ◌+◌, ◌*◌, ◌≤◌, List, length, Option, Some, ◌↔◌}
use Rattle.definitions.specs.Spelling.{IsBytes}
use Rattle.definitions.specs.Reading.{◌>>=◌}
use Rattle.payload_rules.specs.Payloads.{Payload, tag_of, version_text, payload_version, PayloadFits, PayloadOf, written_payload, TextsFit}
use Rattle.payload_rules.specs.Reading.{payload_at}
use Rattle.definitions.specs.Limits.{fixed_weight}
use Rattle.record_rules.specs.Records.{SealedRecord, record_weight}
use Rattle.view_rules.specs.Changes.{OpensOnce, ChangesOf, OpensByTag, changes_of}
use Rattle.step_rules.specs.Store.{Head, Seal, sealed_record, KeyedStore, payload_text_bytes, SealsWell}

pub record Sealing : Type 0 where
  -- the two texts of these bytes under a key and a head, with 96 random bytes
  pub seal : (key : List ℕ) → Head → (bytes random : List ℕ) → Seal
  -- the bytes to which a record opens under a key, if it opens
  pub opens : (key : List ℕ) → SealedRecord → Option (List ℕ)
  -- what is sealed opens to what was sealed, in a record of the same head, whenever that is made
  pub reopens : (key : List ℕ) (head : Head) (bytes random : List ℕ) (now : ℕ) → length key ≡ 32 → IsBytes key → IsBytes bytes → length random ≡ 96 → IsBytes random → opens key (sealed_record head now (seal key head bytes random)) ≡ Some bytes
  -- what a record opens to are bytes, and no more than the text in which they are sealed
  pub opened_bytes : (key : List ℕ) (r : SealedRecord) (bytes : List ℕ) → opens key r ≡ Some bytes → IsBytes bytes
  pub opened_short : (key : List ℕ) (r : SealedRecord) (bytes : List ℕ) → opens key r ≡ Some bytes → length bytes ≤ length r.sealed
  -- how long the two texts are is told by the number of bytes alone
  pub sealed_length : ℕ → ℕ
  pub wrapped_length : ℕ
  pub sealed_has : (key : List ℕ) (head : Head) (bytes random : List ℕ) → length random ≡ 96 → length (seal key head bytes random).sealed ≡ sealed_length (length bytes)
  pub wrapped_has : (key : List ℕ) (head : Head) (bytes random : List ℕ) → length random ≡ 96 → length (seal key head bytes random).wrapped ≡ wrapped_length
  -- and not more than these
  pub sealed_short : (n : ℕ) → sealed_length n ≤ 2 * n + 128
  pub wrapped_short : wrapped_length ≤ 256

-- a record opens to a payload where it opens to bytes that spell it, under the record's tag and version
abbrev pub OpensTo : Sealing → (key : List ℕ) → SealedRecord → Payload → Type 0
OpensTo sealing key r payload = (bytes : List ℕ) × (sealing.opens key r ≡ Some bytes) × PayloadOf r.tag r.version bytes payload

-- what a record of the payload weighs beside the two texts of its seal: its host name is empty, and a version has two bytes
abbrev pub unsealed_weight : Payload → ℕ
unsealed_weight payload = fixed_weight + 2 + length (tag_of payload)

-- the store of this host under this key: a payload is sealed in the bytes that are written for it, and a record opens to the payload
-- that its bytes spell
abbrev pub keyed_store : Sealing → (host : ℕ) (key : List ℕ) → KeyedStore
keyed_store sealing host key = record {
  host = host;
  seal = λ head payload random. sealing.seal key head (written_payload payload) random;
  weight_of = λ payload. unsealed_weight payload + sealing.sealed_length (length (written_payload payload)) + sealing.wrapped_length;
  opens = λ r. sealing.opens key r >>= payload_at r.tag r.version;
}

-- a record that the store sealed opens to its payload again
abbrev pub OpensItsSeals : KeyedStore → Type 0
OpensItsSeals store = (head : Head) (payload : Payload) (now : ℕ) (random : List ℕ) → head.tag ≡ tag_of payload → head.version ≡ version_text (payload_version payload) → PayloadFits payload → TextsFit payload → IsBytes (written_payload payload)
    → length random ≡ 96 → IsBytes random → store.opens (sealed_record head now (store.seal head payload random)) ≡ Some payload

-- the texts of a payload weigh no more than the record that opens to it
abbrev pub TextsWithinRecords : KeyedStore → Type 0
TextsWithinRecords store = (r : SealedRecord) (payload : Payload) → store.opens r ≡ Some payload → payload_text_bytes payload ≤ record_weight r

-- all that contracts cite of such a store
pub record KeyedStoreHolds (sealing : Sealing) (host : ℕ) (key : List ℕ) : Type 0 where
  pub seals_well : SealsWell (keyed_store sealing host key)
  pub opens_its_seals : length key ≡ 32 → IsBytes key → OpensItsSeals (keyed_store sealing host key)
  -- a record opens to one payload at most, as the relation says, and to one of its tag
  pub opens : (r : SealedRecord) (payload : Payload) → ((keyed_store sealing host key).opens r ≡ Some payload) ↔ OpensTo sealing key r payload
  pub opens_once : OpensOnce (OpensTo sealing key)
  pub opens_by_tag : OpensByTag (keyed_store sealing host key).opens
  -- the changes that it shows are those of the records that open
  pub changes : (records : List SealedRecord) → ChangesOf (OpensTo sealing key) records (changes_of (keyed_store sealing host key).opens records)
  pub texts : TextsWithinRecords (keyed_store sealing host key)
