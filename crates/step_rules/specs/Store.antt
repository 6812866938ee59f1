-- What a store has beside its journal: its host, and what its key seals and opens. How it seals is not said here.
use Rattle.std.specs.Prelude.{◌≡◌, ℕ, ◌+◌, ◌≤◌, List, [], length}
use Rattle.definitions.specs.Journal.{HistoryRecord}
use Rattle.definitions.specs.Search.{hit_bytes}
use Rattle.payload_rules.specs.Payloads.{Payload, HistoryCreate, HistoryDelete, KvSet, KvDelete, AliasSet, AliasDelete, tag_of, version_text, payload_version}
use Rattle.definitions.specs.Limits.{most_page_weight, most_call_bytes}
use Rattle.record_rules.specs.Records.{SealedRecord, Entry, record_weight}
use Rattle.view_rules.specs.Changes.{Change, viewed, Opening, changes_of}
use Rattle.view_rules.specs.Views.{ShowsHistory, ShowsKv, ShowsAlias}

-- what a record says in the open, to which its sealed text is bound
pub record Head : Type 0 where
  pub id : ℕ
  pub idx : ℕ
  pub version : List ℕ
  pub tag : List ℕ
  pub host : ℕ

-- the two texts of a seal: what is sealed, and the key that opens it, wrapped
pub record Seal : Type 0 where
  pub sealed : List ℕ
  pub wrapped : List ℕ

-- a record of this head and seal, made here at a time in nanoseconds since 1970: its host name is empty
abbrev pub sealed_record : Head → ℕ → Seal → SealedRecord
sealed_record head now seal =
    record { id = head.id; idx = head.idx; host = head.host; host_name = []; timestamp = now; version = head.version; tag = head.tag; sealed = seal.sealed; wrapped = seal.wrapped }

pub record KeyedStore : Type 0 where
  pub host : ℕ
  -- what a payload is sealed to under this head, with 96 random bytes
  pub seal : Head → Payload → List ℕ → Seal
  -- what a record of this payload weighs, in bytes
  pub weight_of : Payload → ℕ
  -- what a record holds, if it opens under the key
  pub opens : Opening

-- bytes of all texts of a payload together
abbrev pub payload_text_bytes : Payload → ℕ
payload_text_bytes (HistoryCreate h) = hit_bytes h
payload_text_bytes (HistoryDelete id) = 0
payload_text_bytes (KvSet namespace key value) = length namespace + length key + length value
payload_text_bytes (KvDelete namespace key) = length namespace + length key
payload_text_bytes (AliasSet name value) = length name + length value
payload_text_bytes (AliasDelete name) = length name

-- ---- what is there

-- the changes that owner 0's records hold, of those that open under the key
abbrev pub shown_changes : KeyedStore → List Entry → List Change
shown_changes store journal = changes_of store.opens (viewed journal)

-- a command with this id is shown
abbrev pub HasCommand : KeyedStore → List Entry → ℕ → Type 0
HasCommand store journal id = (h : HistoryRecord) × ShowsHistory (shown_changes store journal) h × (h.id ≡ id)

-- the key of the namespace has a value
abbrev pub HasValue : KeyedStore → List Entry → (namespace key : List ℕ) → Type 0
HasValue store journal namespace key = (value : List ℕ) × ShowsKv (shown_changes store journal) namespace key value

-- the name stands for a value
abbrev pub HasAlias : KeyedStore → List Entry → (name : List ℕ) → Type 0
HasAlias store journal name = (value : List ℕ) × ShowsAlias (shown_changes store journal) name value

-- A record of the payload's tag and version weighs what its payload tells, whatever its id, idx, host, time and 96
-- random bytes. With the texts of one call it is no heavier than a record may be.
pub record SealsWell (store : KeyedStore) : Type 0 where
  pub weighs : (head : Head) (payload : Payload) (now : ℕ) (random : List ℕ) → head.tag ≡ tag_of payload → head.version ≡ version_text (payload_version payload) → length random ≡ 96
      → record_weight (sealed_record head now (store.seal head payload random)) ≡ store.weight_of payload
  pub light : (payload : Payload) → payload_text_bytes payload ≤ most_call_bytes → store.weight_of payload ≤ most_page_weight
