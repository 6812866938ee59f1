-- What one call does to a journal, and its answer: one constructor for each way in which it may come out.
use Rattle.std.specs.Prelude.{◌≡◌, ℕ, ℤ, List, [], ◌∷◌, ◌++◌, length, take, drop, find, map, Option, Some, None, Bool, true, false, ◌==◌}
use Rattle.std.specs.List.{list_any}
use Rattle.definitions.specs.Ids.{made_id}
use Rattle.definitions.specs.Journal.{StartedRecord, HistoryRecord, finished}
use Rattle.definitions.specs.Uses.{Used, used_nothing, read_clock, read_and_drew}
use Rattle.payload_rules.specs.Payloads.{Payload, HistoryCreate, HistoryDelete, KvSet, KvDelete, AliasSet, AliasDelete, tag_of, version_text, payload_version}
use Rattle.record_rules.specs.Records.{Caller, Entry, Event, Started, Local, Taken, started_weight}
use Rattle.record_rules.specs.Journal.{ChainPlace, PassedLimit, chain, status, first_limit_passed, running, events_of, records_of}
use Rattle.view_rules.specs.Views.{ShowsKv}
use Rattle.view_rules.specs.Answers.{ScopedQuery, SearchAnswer, Named, KvListAnswer, AliasListAnswer}
use Rattle.step_rules.specs.Calls.{Call, start_call, end_call, delete_call, search_call, kv_set_call, kv_delete_call, kv_get_call, kv_list_call, alias_set_call, alias_delete_call, alias_list_call, status_call, LongText, long_text}
use Rattle.step_rules.specs.Answers.{Refusal, too_long, unknown_id, unknown_name, full, id_taken, Answer, began, stored, hits, value_is, keys, aliases, places, refused}
use Rattle.step_rules.specs.Store.{Head, KeyedStore, sealed_record, shown_changes, HasCommand, HasValue, HasAlias}

-- ---- what a writing call is to append

-- a command that starts, or a payload that is to be sealed in a record, which may close a running command
pub data Draft : Type 0 where
  start_draft : (command cwd session hostname : List ℕ) → Draft
  record_draft : (closes : Option ℕ) → Payload → Draft

-- the running command with this id
abbrev pub running_under : ℕ → List Entry → Option StartedRecord
running_under id journal = find (λ s. s.id == id) (running journal)

pub data Drafts (store : KeyedStore) (journal : List Entry) (call : Call) (draft : Draft) : Type 0 where
  start_drafts : (command cwd session hostname : List ℕ) → call ≡ start_call command cwd session hostname → draft ≡ start_draft command cwd session hostname → Drafts store journal call draft
  -- an End closes a running command, and keeps what its start told
  end_drafts : (id : ℕ) (duration exit : ℤ) (author : Option (List ℕ)) (s : StartedRecord) → call ≡ end_call id duration exit author → running_under id journal ≡ Some s
      → draft ≡ record_draft (Some id) (HistoryCreate (finished s duration exit author)) → Drafts store journal call draft
  -- only a command that is shown is deleted
  delete_drafts : (id : ℕ) → call ≡ delete_call id → HasCommand store journal id → draft ≡ record_draft None (HistoryDelete id) → Drafts store journal call draft
  kv_set_drafts : (namespace key value : List ℕ) → call ≡ kv_set_call namespace key value → draft ≡ record_draft None (KvSet namespace key value) → Drafts store journal call draft
  -- only a key that has a value is deleted
  kv_delete_drafts : (namespace key : List ℕ) → call ≡ kv_delete_call namespace key → HasValue store journal namespace key → draft ≡ record_draft None (KvDelete namespace key) → Drafts store journal call draft
  alias_set_drafts : (name value : List ℕ) → call ≡ alias_set_call name value → draft ≡ record_draft None (AliasSet name value) → Drafts store journal call draft
  -- only a name that has a value is deleted
  alias_delete_drafts : (name : List ℕ) → call ≡ alias_delete_call name → HasAlias store journal name → draft ≡ record_draft None (AliasDelete name) → Drafts store journal call draft

-- an End or a deletion of what isn't there; of a pair the key is told
pub data Unknown (store : KeyedStore) (journal : List Entry) (call : Call) (refusal : Refusal) : Type 0 where
  end_unknown : (id : ℕ) (duration exit : ℤ) (author : Option (List ℕ)) → call ≡ end_call id duration exit author → running_under id journal ≡ None → refusal ≡ unknown_id id → Unknown store journal call refusal
  delete_unknown : (id : ℕ) → call ≡ delete_call id → (HasCommand store journal id → ⊥) → refusal ≡ unknown_id id → Unknown store journal call refusal
  key_unknown : (namespace key : List ℕ) → call ≡ kv_delete_call namespace key → (HasValue store journal namespace key → ⊥) → refusal ≡ unknown_name key → Unknown store journal call refusal
  alias_unknown : (name : List ℕ) → call ≡ alias_delete_call name → (HasAlias store journal name → ⊥) → refusal ≡ unknown_name name → Unknown store journal call refusal

-- the command that starts, with its id and its time
abbrev pub started_record : (id now : ℕ) (command cwd session hostname : List ℕ) → StartedRecord
started_record id now command cwd session hostname = record { id = id; timestamp = now; command = command; cwd = cwd; session = session; hostname = hostname }

-- ---- room for it

-- what the entry will weigh, in bytes; the id and the time of a command weigh nothing
abbrev pub draft_weight : KeyedStore → Draft → ℕ
draft_weight store (start_draft command cwd session hostname) = started_weight (started_record 0 0 command cwd session hostname)
draft_weight store (record_draft closes payload) = store.weight_of payload

-- the place of its record
abbrev pub draft_place : KeyedStore → Draft → Option ChainPlace
draft_place store (start_draft command cwd session hostname) = None
draft_place store (record_draft closes payload) = Some (record { host = store.host; tag = tag_of payload })

-- the first of owner 0's limits that it would pass
abbrev pub draft_passes : KeyedStore → List Entry → Draft → Option PassedLimit
draft_passes store journal draft = first_limit_passed journal 0 (draft_weight store draft) (draft_place store draft)

-- nothing but the drawn id can refuse the call: its texts are short enough, what it names is there, and there is room
pub record Ready (store : KeyedStore) (journal : List Entry) (call : Call) (draft : Draft) : Type 0 where
  pub short : long_text call ≡ None
  pub drafts : Drafts store journal call draft
  pub room : draft_passes store journal draft ≡ None

-- ---- the entry

-- a Start draws ten bytes for its id. A record draws ten for its id and then 96 for its seal, all at once
abbrev pub draws : Draft → ℕ
draws (start_draft command cwd session hostname) = 10
draws (record_draft closes payload) = 106

-- the id of the entry, made from the first ten bytes
abbrev pub drawn_id : ℕ → List ℕ → ℕ
drawn_id now drawn = made_id now (take 10 drawn)

-- the next of the host's chain of this payload's tag
abbrev pub next_head : KeyedStore → List Entry → Payload → ℕ → Head
next_head store journal payload id = record { id = id; idx = length (chain journal 0 store.host (tag_of payload)); version = version_text (payload_version payload); tag = tag_of payload; host = store.host }

-- what is appended at this time with these drawn bytes
abbrev pub draft_event : KeyedStore → List Entry → Draft → ℕ → List ℕ → Event
draft_event store journal (start_draft command cwd session hostname) now drawn = Started (started_record (drawn_id now drawn) now command cwd session hostname)
draft_event store journal (record_draft closes payload) now drawn =
    Local closes (sealed_record (next_head store journal payload (drawn_id now drawn)) now (store.seal (next_head store journal payload (drawn_id now drawn)) payload (drop 10 drawn)))

-- whether the event starts a command with this id
abbrev pub starts_id : ℕ → Event → Bool
starts_id id (Started s) = s.id == id
starts_id id (Local closes r) = false
starts_id id (Taken owner r) = false

-- whether a started command has the id, or a record of any owner
abbrev pub is_taken : List Entry → Draft → ℕ → Bool
is_taken journal (start_draft command cwd session hostname) id = list_any (starts_id id) (events_of journal)
is_taken journal (record_draft closes payload) id = list_any (λ r. r.id == id) (records_of (events_of journal))

-- a Start is answered its id, and the others the idx of their record
abbrev pub draft_answer : KeyedStore → List Entry → Draft → ℕ → Answer
draft_answer store journal (start_draft command cwd session hostname) id = began id
draft_answer store journal (record_draft closes payload) id = stored (length (chain journal 0 store.host (tag_of payload)))

-- ---- reads

pub data Shows (store : KeyedStore) (journal : List Entry) (call : Call) (answer : Answer) : Type 0 where
  shows_hits : (asked : ScopedQuery) (page : List HistoryRecord) → call ≡ search_call asked → SearchAnswer (shown_changes store journal) asked page → answer ≡ hits page → Shows store journal call answer
  shows_value : (namespace key value : List ℕ) → call ≡ kv_get_call namespace key → ShowsKv (shown_changes store journal) namespace key value → answer ≡ value_is (Some value) → Shows store journal call answer
  shows_no_value : (namespace key : List ℕ) → call ≡ kv_get_call namespace key → (HasValue store journal namespace key → ⊥) → answer ≡ value_is None → Shows store journal call answer
  shows_keys : (namespace after : List ℕ) (limit : ℕ) (page : List Named) → call ≡ kv_list_call namespace after limit → KvListAnswer (shown_changes store journal) namespace after limit page
      → answer ≡ keys (map (λ item. item.name) page) → Shows store journal call answer
  shows_aliases : (after : List ℕ) (limit : ℕ) (page : List Named) → call ≡ alias_list_call after limit → AliasListAnswer (shown_changes store journal) after limit page → answer ≡ aliases page → Shows store journal call answer
  -- the lengths of owner 0's chains
  shows_places : call ≡ status_call → answer ≡ places (status journal 0) → Shows store journal call answer

-- ---- steps

-- a refused call leaves the journal
pub record Refuses (journal after : List Entry) (answer : Answer) (refusal : Refusal) : Type 0 where
  pub stays : after ≡ journal
  pub answer_is : answer ≡ refused refusal

-- From the journal the call, made by this caller, may use so much of clock and random bytes, leave the journal `after`, and be answered
-- so. A writing call reads the clock once, before all else; it draws only when it is ready. A read uses nothing.
pub data Step (store : KeyedStore) (journal : List Entry) (caller : Caller) (call : Call) (used : Used) (after : List Entry) (answer : Answer) : Type 0 where
  long_step : (now : ℕ) (long : LongText) → used ≡ read_clock now → long_text call ≡ Some long → Refuses journal after answer (too_long long.field long.length) → Step store journal caller call used after answer
  unknown_step : (now : ℕ) (refusal : Refusal) → used ≡ read_clock now → long_text call ≡ None → Unknown store journal call refusal → Refuses journal after answer refusal → Step store journal caller call used after answer
  full_step : (now : ℕ) (draft : Draft) (passed : PassedLimit) → used ≡ read_clock now → long_text call ≡ None → Drafts store journal call draft → draft_passes store journal draft ≡ Some passed
      → Refuses journal after answer (full passed) → Step store journal caller call used after answer
  taken_step : (now : ℕ) (drawn : List ℕ) (draft : Draft) → used ≡ read_and_drew now drawn → length drawn ≡ draws draft → Ready store journal call draft → is_taken journal draft (drawn_id now drawn) ≡ true
      → Refuses journal after answer (id_taken (drawn_id now drawn)) → Step store journal caller call used after answer
  append_step : (now : ℕ) (drawn : List ℕ) (draft : Draft) → used ≡ read_and_drew now drawn → length drawn ≡ draws draft → Ready store journal call draft → is_taken journal draft (drawn_id now drawn) ≡ false
      → after ≡ journal ++ record { caller = caller; event = draft_event store journal draft now drawn } ∷ [] → answer ≡ draft_answer store journal draft (drawn_id now drawn) → Step store journal caller call used after answer
  read_step : used ≡ used_nothing → Shows store journal call answer → after ≡ journal → Step store journal caller call used after answer
