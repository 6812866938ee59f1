-- Worked examples: steps and turns of a small journal, with the numbers written out.
use Rattle.std.specs.Prelude.{◌≡◌, ℕ, ◌-◌, ◌^◌, pos, negsuc, ◌+◌, List, [], ◌∷◌, ◌++◌, length, take, drop, replicate, bytes_eq, codes, Some, None, false, if◌then◌else◌}
use Rattle.definitions.specs.Ids.{made_id}
use Rattle.definitions.specs.Calls.{by_prefix}
use Rattle.definitions.specs.Uses.{used_nothing, read_clock, read_and_drew, read_and_failed}
use Rattle.definitions.specs.Examples.{first_time, ten_bytes, first_id, ls, ls_ended, authored_ls}
use Rattle.payload_rules.specs.Payloads.{HistoryCreate, HistoryDelete, KvSet, KvDelete, AliasSet, AliasDelete, tag_of, history_tag}
use Rattle.record_rules.specs.Records.{SealedRecord, Caller, Entry, Started, Local, Taken}
use Rattle.record_rules.specs.Journal.{first_limit_passed}
use Rattle.record_rules.specs.Growth.{PageGap}
use Rattle.record_rules.specs.Examples.{kv_record, placed_record, ls_entry}
use Rattle.view_rules.specs.Changes.{OpensByTag}
use Rattle.view_rules.specs.Answers.{Scope, of_all, of_hostname, of_session, of_cwd}
use Rattle.step_rules.specs.Calls.{Call, start_call, end_call, delete_call, search_call, kv_set_call, kv_delete_call, kv_get_call, kv_list_call, alias_set_call, alias_delete_call, alias_list_call, status_call, long_text, call_bytes, CallFits}
use Rattle.step_rules.specs.Answers.{too_long, unknown_id, unknown_name, full, random_fault, id_taken, disk_fault, no_memory, began, stored, hits, value_is, keys, aliases, places, refused, Answer, Reply}
use Rattle.step_rules.specs.Sealing.{OpensItsSeals}
use Rattle.step_rules.specs.Store.{Head, Seal, KeyedStore, payload_text_bytes, SealsWell}
use Rattle.step_rules.specs.Step.{start_draft, record_draft, Drafts, draft_place, next_head, draft_answer, Shows, Step}
use Rattle.step_rules.specs.Turn.{UsedBeforeFailing, Turn}
use Rattle.step_rules.specs.PageTurns.{took, page_refused, page_faulted, page_no_memory, PageTurn}
use Rattle.step_rules.specs.ReadTurns.{status_read, page_read, front_read, told_status, told_page, told_front, read_faulted, read_no_memory, ReadTurn}

-- ---- a command of host 1 that starts, and ends

abbrev pub second_time : ℕ
second_time = 1700000001000000000

abbrev pub third_time : ℕ
third_time = 1700000002000000000

-- the random bytes 0a to 13, and the id that they and the third time make
abbrev pub other_bytes : List ℕ
other_bytes = 10 ∷ 11 ∷ 12 ∷ 13 ∷ 14 ∷ 15 ∷ 16 ∷ 17 ∷ 18 ∷ 19 ∷ []

abbrev pub other_id : ℕ
other_id = 0x018bcfe56fd07a0b8c0d0e0f10111213

abbrev pub call_of : ℕ → Caller
call_of number = record { number = 1; call = number; settled_for = 0 }

abbrev pub ls_call : Call
ls_call = start_call (codes "ls") (codes "/") (codes "s1") (codes "h:u")

-- the same command, started again by the third call
abbrev pub other_entry : Entry
other_entry = record { caller = call_of 3; event = Started (record ls { id = other_id; timestamp = third_time }) }

-- the id of its end, and what the end's record says in the open
abbrev pub end_id : List ℕ → ℕ
end_id drawn = made_id second_time (take 10 drawn)

abbrev pub end_head : KeyedStore → List ℕ → Head
end_head store drawn = record { id = end_id drawn; idx = 0; version = codes "v0"; tag = codes "history"; host = store.host }

abbrev pub end_seal : KeyedStore → List ℕ → Seal
end_seal store drawn = store.seal (end_head store drawn) (HistoryCreate ls_ended) (drop 10 drawn)

-- the end as it is appended with these drawn bytes
abbrev pub end_record : KeyedStore → List ℕ → SealedRecord
end_record store drawn =
    record { id = end_id drawn; idx = 0; host = store.host; host_name = []; timestamp = second_time; version = codes "v0"; tag = codes "history"; sealed = (end_seal store drawn).sealed; wrapped = (end_seal store drawn).wrapped }

abbrev pub end_entry : KeyedStore → List ℕ → Entry
end_entry store drawn = record { caller = call_of 2; event = Local (Some first_id) (end_record store drawn) }

-- once it is settled
abbrev pub end_settled : KeyedStore → List ℕ → Entry
end_settled store drawn = record { caller = record { number = 0; call = 2; settled_for = 1 }; event = Local (Some first_id) (end_record store drawn) }

-- a store of host 1 under whose key the end weighs 584 bytes
pub record OfExample (store : KeyedStore) : Type 0 where
  pub host : store.host ≡ 1
  pub weight : store.weight_of (HistoryCreate ls_ended) ≡ 584

-- A store of that kind: a payload is sealed to its random bytes and to zeros, one for each byte of its texts and 127 more. Each record
-- of the history opens as the command that ended.
abbrev pub zeros_store : KeyedStore
zeros_store = record {
  host = 1;
  seal = λ head payload random. record { sealed = random ++ replicate (127 + payload_text_bytes payload) 0; wrapped = replicate 216 0 };
  weight_of = λ payload. 569 + length (tag_of payload) + payload_text_bytes payload;
  opens = λ r. if bytes_eq r.tag history_tag then Some (HistoryCreate ls_ended) else None;
}

-- what is asked of a store can be met, all of it by one
pub record WorkedStore : Type 0 where
  pub seals_well : SealsWell zeros_store
  pub of_example : OfExample zeros_store
  pub opens_by_tag : OpensByTag zeros_store.opens
  pub opens_end : (drawn : List ℕ) → zeros_store.opens (end_record zeros_store drawn) ≡ Some (HistoryCreate ls_ended)
  -- a store whose records weigh more than it tells, or more than a record may, doesn't seal so
  pub tells_less : SealsWell (record zeros_store { weight_of = λ payload. 568 + length (tag_of payload) + payload_text_bytes payload }) → ⊥
  pub too_heavy : SealsWell (record zeros_store { weight_of = λ payload. 4194305 }) → ⊥
  -- one whose records open to nothing seals so, but doesn't open what it sealed
  pub closed_seals : SealsWell (record zeros_store { opens = λ r. None })
  pub never_opens : OpensItsSeals (record zeros_store { opens = λ r. None }) → ⊥

pub record WorkedCommand : Type 0 where
  pub starts : (store : KeyedStore) → Step store [] (call_of 1) ls_call (read_and_drew first_time ten_bytes) (ls_entry ∷ []) (began first_id)
  -- with the bytes of the first start another one is refused
  pub starts_again : (store : KeyedStore) → Step store (ls_entry ∷ []) (call_of 2) ls_call (read_and_drew first_time ten_bytes) (ls_entry ∷ []) (refused (id_taken first_id))
  pub ends : (store : KeyedStore) (drawn : List ℕ) → OfExample store → length drawn ≡ 106 → Step store (ls_entry ∷ []) (call_of 2) (end_call first_id (pos 1000) (pos 0) None) (read_and_drew second_time drawn) (ls_entry ∷ end_entry store drawn ∷ []) (stored 0)
  -- and once it has ended it runs no more
  pub ends_again : (store : KeyedStore) (drawn : List ℕ) → Step store (ls_entry ∷ end_entry store drawn ∷ []) (call_of 3) (end_call first_id (pos 1000) (pos 0) None) (read_clock second_time) (ls_entry ∷ end_entry store drawn ∷ []) (refused (unknown_id first_id))
  -- and an id that is not the one that runs
  pub other_runs : (store : KeyedStore) → Step store (ls_entry ∷ []) (call_of 2) (end_call 7 (pos 1000) (pos 0) None) (read_clock second_time) (ls_entry ∷ []) (refused (unknown_id 7))
  -- a record with the id that a start draws refuses nothing
  pub starts_beside : (store : KeyedStore) (r : SealedRecord) → r.id ≡ first_id → Step store (record { caller = call_of 2; event = Taken 5 r } ∷ []) (call_of 1) ls_call (read_and_drew first_time ten_bytes) (record { caller = call_of 2; event = Taken 5 r } ∷ ls_entry ∷ []) (began first_id)
  -- a record of any owner may have the drawn id already
  pub end_taken : (store : KeyedStore) (drawn : List ℕ) (r : SealedRecord) → OfExample store → length drawn ≡ 106 → r.id ≡ end_id drawn → Step store (ls_entry ∷ record { caller = call_of 2; event = Taken 5 r } ∷ []) (call_of 3) (end_call first_id (pos 1000) (pos 0) None) (read_and_drew second_time drawn) (ls_entry ∷ record { caller = call_of 2; event = Taken 5 r } ∷ []) (refused (id_taken (end_id drawn)))
  -- where the owner is full nothing is drawn
  pub is_full : (store : KeyedStore) (journal : List Entry) → first_limit_passed journal 0 136 None ≡ Some (record { what = 1; held = 4000000 }) → Step store journal (call_of 1) ls_call (read_clock first_time) journal (refused (full (record { what = 1; held = 4000000 })))
  -- an id that never ran
  pub never_ran : (store : KeyedStore) → Step store [] (call_of 1) (end_call (2 ^ 128 - 1) (pos 0) (pos 0) None) (read_clock first_time) [] (refused (unknown_id (2 ^ 128 - 1)))

-- texts at their limits, and one byte above
pub record WorkedTexts : Type 0 where
  pub command_at_most : (command : List ℕ) → length command ≡ 262144 → long_text (start_call command (codes "/") (codes "s1") (codes "h:u")) ≡ None
  pub command_above : (store : KeyedStore) (command : List ℕ) → length command ≡ 262145 → Step store [] (call_of 1) (start_call command (codes "/") (codes "s1") (codes "h:u")) (read_clock first_time) [] (refused (too_long 1 262145))
  -- the first of two that are too long is told
  pub cwd_above : (command cwd session hostname : List ℕ) → length command ≡ 262144 → length cwd ≡ 4097 → long_text (start_call command cwd session hostname) ≡ Some (record { field = 2; length = 4097 })
  pub session_above : (session hostname : List ℕ) → length session ≡ 4097 → long_text (start_call (codes "ls") (codes "/") session hostname) ≡ Some (record { field = 3; length = 4097 })
  pub hostname_above : (hostname : List ℕ) → length hostname ≡ 4097 → long_text (start_call (codes "ls") (codes "/") (codes "s1") hostname) ≡ Some (record { field = 4; length = 4097 })
  pub hostname_at_most : (hostname : List ℕ) → length hostname ≡ 4096 → long_text (start_call (codes "ls") (codes "/") (codes "s1") hostname) ≡ None
  pub namespace_above : (namespace key value : List ℕ) → length namespace ≡ 4097 → long_text (kv_set_call namespace key value) ≡ Some (record { field = 1; length = 4097 })
  pub key_above : (key value : List ℕ) → length key ≡ 4097 → long_text (kv_set_call (codes "n") key value) ≡ Some (record { field = 2; length = 4097 })
  pub kv_value_above : (value : List ℕ) → length value ≡ 262145 → long_text (kv_set_call (codes "n") (codes "k") value) ≡ Some (record { field = 3; length = 262145 })
  pub kv_value_at_most : (value : List ℕ) → length value ≡ 262144 → long_text (kv_set_call (codes "n") (codes "k") value) ≡ None
  pub name_above : (name value : List ℕ) → length name ≡ 4097 → long_text (alias_set_call name value) ≡ Some (record { field = 1; length = 4097 })
  pub alias_value_above : (value : List ℕ) → length value ≡ 262145 → long_text (alias_set_call (codes "g") value) ≡ Some (record { field = 2; length = 262145 })
  -- an author is the fourth field of an End, and is judged before the id is looked up
  pub author_at_most : (id : ℕ) (author : List ℕ) → length author ≡ 4096 → long_text (end_call id (pos 0) (pos 0) (Some author)) ≡ None
  pub author_above : (store : KeyedStore) (id : ℕ) (author : List ℕ) → length author ≡ 4097 → Step store [] (call_of 1) (end_call id (pos 0) (pos 0) (Some author)) (read_clock first_time) [] (refused (too_long 4 4097))
  pub author_first : (store : KeyedStore) (id : ℕ) (author : List ℕ) (after : List Entry) (answer : Answer) → length author ≡ 4097 → Step store [] (call_of 1) (end_call id (pos 0) (pos 0) (Some author)) (read_clock first_time) after answer → answer ≡ refused (unknown_id id) → ⊥
  pub alias_value_at_most : (value : List ℕ) → length value ≡ 262144 → long_text (alias_set_call (codes "g") value) ≡ None

pub record WorkedViews : Type 0 where
  -- an alias that was never set
  pub no_alias : (store : KeyedStore) → Step store [] (call_of 1) (alias_delete_call (codes "zz")) (read_clock first_time) [] (refused (unknown_name (codes "zz")))
  -- the key of a namespace, and none above it; and no alias above the only one
  pub a_key : (store : KeyedStore) (r : SealedRecord) → store.opens r ≡ Some (KvSet (codes "n") (codes "k") (codes "v")) → Shows store (record { caller = call_of 1; event = Local None r } ∷ []) (kv_list_call (codes "n") [] 5) (keys (codes "k" ∷ []))
  pub no_key_above : (store : KeyedStore) (r : SealedRecord) → store.opens r ≡ Some (KvSet (codes "n") (codes "k") (codes "v")) → Shows store (record { caller = call_of 1; event = Local None r } ∷ []) (kv_list_call (codes "n") (codes "k") 5) (keys [])
  pub no_alias_above : (store : KeyedStore) (r : SealedRecord) → store.opens r ≡ Some (AliasSet (codes "g") (codes "v")) → Shows store (record { caller = call_of 1; event = Local None r } ∷ []) (alias_list_call (codes "g") 5) (aliases [])
  -- a pair that was never set: its key is told
  pub no_pair : (store : KeyedStore) → Step store [] (call_of 1) (kv_delete_call (codes "n") (codes "k")) (read_clock first_time) [] (refused (unknown_name (codes "k")))
  -- the value of a key, and none of another key
  pub a_value : (store : KeyedStore) (r : SealedRecord) → store.opens r ≡ Some (KvSet (codes "n") (codes "k") (codes "v")) → Turn store (record { caller = call_of 1; event = Local None r } ∷ []) [] (call_of 2) (kv_get_call (codes "n") (codes "k")) used_nothing (record { caller = call_of 1; event = Local None r } ∷ []) [] (record { front = 1; answer = value_is (Some (codes "v")) })
  pub no_value : (store : KeyedStore) (r : SealedRecord) → store.opens r ≡ Some (KvSet (codes "n") (codes "k") (codes "v")) → Turn store (record { caller = call_of 1; event = Local None r } ∷ []) [] (call_of 2) (kv_get_call (codes "n") (codes "other")) used_nothing (record { caller = call_of 1; event = Local None r } ∷ []) [] (record { front = 1; answer = value_is None })

-- a record of host 1 that was made here
abbrev pub one_made : Entry
one_made = record { caller = call_of 1; event = Local None (placed_record 1 (codes "history") 0 11) }

-- what is to be appended for each call that names what is there, or sets it
pub record WorkedDrafts : Type 0 where
  pub sets_key : (store : KeyedStore) → Drafts store [] (kv_set_call (codes "n") (codes "k") (codes "v")) (record_draft None (KvSet (codes "n") (codes "k") (codes "v")))
  pub deletes_key : (store : KeyedStore) (r : SealedRecord) → store.opens r ≡ Some (KvSet (codes "n") (codes "k") (codes "v")) → Drafts store (record { caller = call_of 1; event = Local None r } ∷ []) (kv_delete_call (codes "n") (codes "k")) (record_draft None (KvDelete (codes "n") (codes "k")))
  pub sets_alias : (store : KeyedStore) → Drafts store [] (alias_set_call (codes "g") (codes "v")) (record_draft None (AliasSet (codes "g") (codes "v")))
  -- the command that is shown, and none of another id
  pub deletes : (store : KeyedStore) (r : SealedRecord) → store.opens r ≡ Some (HistoryCreate ls_ended) → Drafts store (record { caller = call_of 1; event = Local None r } ∷ []) (delete_call first_id) (record_draft None (HistoryDelete first_id))
  pub no_command : (store : KeyedStore) (r : SealedRecord) → store.opens r ≡ Some (HistoryCreate ls_ended) → Step store (record { caller = call_of 1; event = Local None r } ∷ []) (call_of 2) (delete_call 7) (read_clock first_time) (record { caller = call_of 1; event = Local None r } ∷ []) (refused (unknown_id 7))
  -- nor one that is still running, nor one that was deleted
  pub runs_still : (store : KeyedStore) → Step store (ls_entry ∷ []) (call_of 2) (delete_call first_id) (read_clock second_time) (ls_entry ∷ []) (refused (unknown_id first_id))
  pub deleted_before : (store : KeyedStore) (r s : SealedRecord) → store.opens s ≡ Some (HistoryDelete first_id) → Step store (record { caller = call_of 1; event = Local None r } ∷ record { caller = call_of 2; event = Local None s } ∷ []) (call_of 3) (delete_call first_id) (read_clock first_time) (record { caller = call_of 1; event = Local None r } ∷ record { caller = call_of 2; event = Local None s } ∷ []) (refused (unknown_id first_id))
  -- the name that stands for a value, and no other one
  pub deletes_alias : (store : KeyedStore) (r : SealedRecord) → store.opens r ≡ Some (AliasSet (codes "g") (codes "v")) → Drafts store (record { caller = call_of 1; event = Local None r } ∷ []) (alias_delete_call (codes "g")) (record_draft None (AliasDelete (codes "g")))
  pub no_name : (store : KeyedStore) (r : SealedRecord) → store.opens r ≡ Some (AliasSet (codes "g") (codes "v")) → Step store (record { caller = call_of 1; event = Local None r } ∷ []) (call_of 2) (alias_delete_call (codes "v")) (read_clock first_time) (record { caller = call_of 1; event = Local None r } ∷ []) (refused (unknown_name (codes "v")))
  -- behind one record of the host's history the next has idx 1, and takes their place; a command that starts takes none
  pub next_idx : (store : KeyedStore) (id : ℕ) → OfExample store → next_head store (one_made ∷ []) (HistoryDelete 7) id ≡ record { id = id; idx = 1; version = codes "v0"; tag = codes "history"; host = 1 }
  pub next_told : (store : KeyedStore) (id : ℕ) → OfExample store → draft_answer store (one_made ∷ []) (record_draft None (HistoryDelete 7)) id ≡ stored 1
  pub takes_place : (store : KeyedStore) → OfExample store → draft_place store (record_draft None (HistoryDelete 7)) ≡ Some (record { host = 1; tag = codes "history" })
  pub takes_none : (store : KeyedStore) → draft_place store (start_draft (codes "ls") (codes "/") (codes "s1") (codes "h:u")) ≡ None

-- a search for this text, in a scope
abbrev pub search_of : (scope : Scope) (text : List ℕ) (offset limit : ℕ) → Call
search_of scope text offset limit = search_call (record { scope = scope; unique = false; query = record { mode = by_prefix; text = text; offset = offset; limit = limit } })

-- a command that is started, ended and found, reply by reply
pub record RunOf (store : KeyedStore) (drawn : List ℕ) : Type 0 where
  pub starts : Turn store [] [] (call_of 1) ls_call (read_and_drew first_time ten_bytes) (ls_entry ∷ []) [] (record { front = 1; answer = began first_id })
  -- until it has ended it isn't found
  pub none_ended : Turn store (ls_entry ∷ []) [] (call_of 2) (search_of of_all (codes "ls") 0 100) used_nothing (ls_entry ∷ []) [] (record { front = 1; answer = hits [] })
  pub ends : Turn store (ls_entry ∷ []) [] (call_of 2) (end_call first_id (pos 1000) (pos 0) None) (read_and_drew second_time drawn) (ls_entry ∷ end_entry store drawn ∷ []) [] (record { front = 2; answer = stored 0 })
  pub is_found : Turn store (ls_entry ∷ end_entry store drawn ∷ []) [] (call_of 3) (search_of of_all (codes "ls") 0 100) used_nothing (ls_entry ∷ end_entry store drawn ∷ []) [] (record { front = 2; answer = hits (ls_ended ∷ []) })
  -- another text isn't found, nor a second hit
  pub other_text : Turn store (ls_entry ∷ end_entry store drawn ∷ []) [] (call_of 3) (search_of of_all (codes "pwd") 0 100) used_nothing (ls_entry ∷ end_entry store drawn ∷ []) [] (record { front = 2; answer = hits [] })
  pub no_second : Turn store (ls_entry ∷ end_entry store drawn ∷ []) [] (call_of 3) (search_of of_all (codes "ls") 1 100) used_nothing (ls_entry ∷ end_entry store drawn ∷ []) [] (record { front = 2; answer = hits [] })

-- at a store whose key opens the end's record, with whichever bytes are drawn for it; the store of zeros is one
pub record WorkedRun : Type 0 where
  pub at_store : (store : KeyedStore) (drawn : List ℕ) → OfExample store → length drawn ≡ 106 → store.opens (end_record store drawn) ≡ Some (HistoryCreate ls_ended) → RunOf store drawn
  pub at_zeros : (drawn : List ℕ) → length drawn ≡ 106 → RunOf zeros_store drawn

-- what a store may be asked, at each bound and past it
pub record WorkedAsked : Type 0 where
  -- ids of 128 bits
  pub id_at_most : CallFits (delete_call (2 ^ 128 - 1))
  pub id_above : CallFits (delete_call (2 ^ 128)) → ⊥
  pub end_id_above : CallFits (end_call (2 ^ 128) (pos 0) (pos 0) None) → ⊥
  -- durations and statuses of 64 bits with a sign
  pub end_at_most : CallFits (end_call (2 ^ 128 - 1) (pos (2 ^ 63 - 1)) (negsuc (2 ^ 63 - 1)) None)
  pub duration_above : CallFits (end_call 0 (pos (2 ^ 63)) (pos 0) None) → ⊥
  pub status_below : CallFits (end_call 0 (pos 0) (negsuc (2 ^ 63)) None) → ⊥
  -- 1 to 1,000 keys, aliases and hits
  pub one_key : CallFits (kv_list_call (codes "n") [] 1)
  pub keys_at_most : CallFits (kv_list_call (codes "n") [] 1000)
  pub no_keys : CallFits (kv_list_call (codes "n") [] 0) → ⊥
  pub keys_above : CallFits (kv_list_call (codes "n") [] 1001) → ⊥
  pub aliases_above : CallFits (alias_list_call [] 1001) → ⊥
  pub hits_above : CallFits (search_of of_all (codes "ls") 0 1001) → ⊥
  -- offsets of 32 bits
  pub offset_at_most : CallFits (search_of of_all (codes "ls") (2 ^ 32 - 1) 1000)
  pub offset_above : CallFits (search_of of_all (codes "ls") (2 ^ 32) 1000) → ⊥
  -- 1,048,569 bytes of texts, that of the scope among them
  pub texts_at_most : (text : List ℕ) → length text ≡ 1048568 → CallFits (search_of (of_cwd (codes "/")) text 0 1)
  pub texts_above : (text : List ℕ) → length text ≡ 1048569 → CallFits (search_of (of_cwd (codes "/")) text 0 1) → ⊥
  -- the texts of each call and of each payload
  pub of_start : call_bytes ls_call ≡ 8
  pub of_end : call_bytes (end_call 7 (pos 1000) (pos 0) None) ≡ 0
  pub of_authored_end : call_bytes (end_call 7 (pos 1000) (pos 0) (Some (codes "me"))) ≡ 2
  pub of_delete : call_bytes (delete_call 7) ≡ 0
  pub of_search : call_bytes (search_of of_all (codes "ls") 3 5) ≡ 2
  pub of_host_search : call_bytes (search_of (of_hostname (codes "h:u")) (codes "ls") 3 5) ≡ 5
  pub of_session_search : call_bytes (search_of (of_session (codes "s1")) (codes "ls") 3 5) ≡ 4
  pub of_kv_set : call_bytes (kv_set_call (codes "n") (codes "ke") (codes "val")) ≡ 6
  pub of_kv_delete : call_bytes (kv_delete_call (codes "n") (codes "ke")) ≡ 3
  pub of_kv_get : call_bytes (kv_get_call (codes "n") (codes "ke")) ≡ 3
  pub of_kv_list : call_bytes (kv_list_call (codes "n") (codes "ke") 5) ≡ 3
  pub of_alias_set : call_bytes (alias_set_call (codes "gg") (codes "val")) ≡ 5
  pub of_alias_delete : call_bytes (alias_delete_call (codes "gg")) ≡ 2
  pub of_alias_list : call_bytes (alias_list_call (codes "gg") 5) ≡ 2
  pub of_status : call_bytes status_call ≡ 0
  pub of_creation : payload_text_bytes (HistoryCreate ls_ended) ≡ 8
  pub of_deletion : payload_text_bytes (HistoryDelete 7) ≡ 0
  pub of_value : payload_text_bytes (KvSet (codes "n") (codes "ke") (codes "val")) ≡ 6
  pub of_no_value : payload_text_bytes (KvDelete (codes "n") (codes "ke")) ≡ 3
  pub of_authored : payload_text_bytes (HistoryCreate authored_ls) ≡ 10
  pub of_alias : payload_text_bytes (AliasSet (codes "gg") (codes "val")) ≡ 5
  pub of_ending : payload_text_bytes (AliasDelete (codes "gg")) ≡ 2

-- a commit that fails
pub record WorkedDoubt : Type 0 where
  -- in doubt, or lost: the journal is the one before
  pub in_doubt : (store : KeyedStore) (drawn : List ℕ) → OfExample store → length drawn ≡ 106 → Turn store (ls_entry ∷ []) [] (call_of 2) (end_call first_id (pos 1000) (pos 0) None) (read_and_drew second_time drawn) (ls_entry ∷ []) (end_entry store drawn ∷ []) (record { front = 1; answer = refused disk_fault })
  pub lost : (store : KeyedStore) (drawn : List ℕ) → OfExample store → length drawn ≡ 106 → Turn store (ls_entry ∷ []) [] (call_of 2) (end_call first_id (pos 1000) (pos 0) None) (read_and_drew second_time drawn) (ls_entry ∷ []) [] (record { front = 1; answer = refused disk_fault })
  -- what is in doubt isn't shown
  pub not_shown : (store : KeyedStore) (drawn : List ℕ) → Turn store (ls_entry ∷ []) (end_entry store drawn ∷ []) (call_of 3) status_call used_nothing (ls_entry ∷ []) (end_entry store drawn ∷ []) (record { front = 1; answer = places [] })
  -- the next call that writes settles it, even where it is refused itself, and is answered behind it
  pub is_settled : (store : KeyedStore) (drawn : List ℕ) → SealsWell store → OfExample store → length drawn ≡ 106 → Turn store (ls_entry ∷ []) (end_entry store drawn ∷ []) (call_of 3) ls_call (read_and_drew first_time ten_bytes) (ls_entry ∷ end_settled store drawn ∷ []) [] (record { front = 2; answer = refused (id_taken first_id) })
  -- or appends behind both
  pub then_starts : (store : KeyedStore) (drawn : List ℕ) → SealsWell store → OfExample store → length drawn ≡ 106 → Turn store (ls_entry ∷ []) (end_entry store drawn ∷ []) (call_of 3) ls_call (read_and_drew third_time other_bytes) (ls_entry ∷ end_settled store drawn ∷ other_entry ∷ []) [] (record { front = 3; answer = began other_id })
  pub then_shown : (store : KeyedStore) (drawn : List ℕ) → OfExample store → Turn store (ls_entry ∷ end_settled store drawn ∷ []) [] (call_of 4) status_call used_nothing (ls_entry ∷ end_settled store drawn ∷ []) [] (record { front = 2; answer = places (record { host = 1; tag = history_tag; count = 1 } ∷ []) })
  pub shown_behind : (store : KeyedStore) (drawn : List ℕ) → OfExample store → Turn store (ls_entry ∷ end_settled store drawn ∷ other_entry ∷ []) [] (call_of 4) status_call used_nothing (ls_entry ∷ end_settled store drawn ∷ other_entry ∷ []) [] (record { front = 3; answer = places (record { host = 1; tag = history_tag; count = 1 } ∷ []) })
  -- settling may fail itself, and so may the draw
  pub stays_in_doubt : (store : KeyedStore) (drawn : List ℕ) → Turn store (ls_entry ∷ []) (end_entry store drawn ∷ []) (call_of 3) ls_call (read_clock second_time) (ls_entry ∷ []) (end_entry store drawn ∷ []) (record { front = 1; answer = refused disk_fault })
  -- an End may be ready only behind a Start that was in doubt, which is settled then, and may fail there
  pub undrawn_behind : Turn zeros_store [] (ls_entry ∷ []) (call_of 2) (end_call first_id (pos 1000) (pos 0) None) (read_and_failed second_time) (record { caller = record { number = 0; call = 1; settled_for = 1 }; event = Started ls } ∷ []) [] (record { front = 1; answer = refused random_fault })
  pub short_behind : Turn zeros_store [] (ls_entry ∷ []) (call_of 2) (end_call first_id (pos 1000) (pos 0) None) (read_and_drew second_time (replicate 106 0)) (record { caller = record { number = 0; call = 1; settled_for = 1 }; event = Started ls } ∷ []) [] (record { front = 1; answer = refused no_memory })
  -- memory may be wanting while a Start is read, when the clock wasn't read yet; that is all that is answered before it was
  pub short_unread : (store : KeyedStore) → Turn store [] [] (call_of 1) ls_call used_nothing [] [] (record { front = 0; answer = refused no_memory })
  pub only_short_unread : (store : KeyedStore) (after doubt_after : List Entry) (reply : Reply) → Turn store [] [] (call_of 1) ls_call used_nothing after doubt_after reply → (after ≡ []) × (doubt_after ≡ []) × (reply.answer ≡ refused no_memory)
  pub not_drawn : (store : KeyedStore) → Turn store [] [] (call_of 1) ls_call (read_and_failed first_time) [] [] (record { front = 0; answer = refused random_fault })
  -- a lost end may come again, in the next call
  pub again : (store : KeyedStore) (drawn : List ℕ) → OfExample store → length drawn ≡ 106 → Turn store (ls_entry ∷ []) [] (call_of 3) (end_call first_id (pos 1000) (pos 0) None) (read_and_drew second_time drawn) (ls_entry ∷ record { caller = call_of 3; event = Local (Some first_id) (end_record store drawn) } ∷ []) [] (record { front = 2; answer = stored 0 })
  -- memory may be wanting: a read leaves what is in doubt, and a write may have settled it
  pub short_read : (store : KeyedStore) (drawn : List ℕ) → Turn store (ls_entry ∷ []) (end_entry store drawn ∷ []) (call_of 3) status_call used_nothing (ls_entry ∷ []) (end_entry store drawn ∷ []) (record { front = 1; answer = refused no_memory })
  pub short : (store : KeyedStore) (drawn : List ℕ) → Turn store (ls_entry ∷ []) (end_entry store drawn ∷ []) (call_of 3) ls_call (read_clock second_time) (ls_entry ∷ []) (end_entry store drawn ∷ []) (record { front = 1; answer = refused no_memory })
  pub short_settled : (store : KeyedStore) (drawn : List ℕ) → SealsWell store → OfExample store → length drawn ≡ 106 → Turn store (ls_entry ∷ []) (end_entry store drawn ∷ []) (call_of 3) ls_call (read_and_drew first_time ten_bytes) (ls_entry ∷ end_settled store drawn ∷ []) [] (record { front = 2; answer = refused no_memory })
  -- but it has read the clock then, and drawn all bytes or none
  pub clock_unread : (store : KeyedStore) (journal : List Entry) → UsedBeforeFailing store journal ls_call used_nothing → ⊥
  pub nine_drawn : (store : KeyedStore) (journal : List Entry) → UsedBeforeFailing store journal ls_call (read_and_drew first_time (take 9 ten_bytes)) → ⊥
  -- it doesn't draw before it has settled, nor where it is refused: nothing with the id 7 runs
  pub drawn_in_doubt : (store : KeyedStore) (drawn : List ℕ) → Turn store (ls_entry ∷ []) (end_entry store drawn ∷ []) (call_of 3) ls_call (read_and_drew first_time ten_bytes) (ls_entry ∷ []) (end_entry store drawn ∷ []) (record { front = 1; answer = refused no_memory }) → ⊥
  pub drawn_unready : (store : KeyedStore) → UsedBeforeFailing store [] (end_call 7 (pos 0) (pos 0) None) (read_and_drew first_time ten_bytes) → ⊥
  -- no fault is told of a call that appends nothing, where nothing is in doubt
  pub no_fault : (store : KeyedStore) (after doubt_after : List Entry) (front : ℕ) → Turn store [] [] (call_of 1) (end_call 7 (pos 0) (pos 0) None) (read_clock first_time) after doubt_after (record { front = front; answer = refused disk_fault }) → ⊥

-- ---- two records of owner 5 that come in one page, of which the first is in doubt

abbrev pub two_records : List SealedRecord
two_records = kv_record 0 1000 ∷ kv_record 1 1001 ∷ []

abbrev pub first_in_doubt : Entry
first_in_doubt = record { caller = call_of 2; event = Taken 5 (kv_record 0 1000) }

-- once it is settled, and the second as it is taken then
abbrev pub first_settled : Entry
first_settled = record { caller = record { number = 0; call = 2; settled_for = 1 }; event = Taken 5 (kv_record 0 1000) }

abbrev pub second_taken : Entry
second_taken = record { caller = call_of 3; event = Taken 5 (kv_record 1 1001) }

-- a page at a disk that may fail, one line for each way
pub record WorkedPageTurns : Type 0 where
  -- what is in doubt is settled first, so the second record alone is fresh
  pub taken : PageTurn (ls_entry ∷ []) (first_in_doubt ∷ []) (call_of 3) 5 two_records (ls_entry ∷ first_settled ∷ second_taken ∷ []) [] (took 1)
  pub taken_again : PageTurn (ls_entry ∷ first_settled ∷ second_taken ∷ []) [] (call_of 4) 5 two_records (ls_entry ∷ first_settled ∷ second_taken ∷ []) [] (took 0)
  -- a page that is refused has settled it too: idx 1 is wanted behind it
  pub gap : PageTurn (ls_entry ∷ []) (first_in_doubt ∷ []) (call_of 3) 5 (kv_record 2 1002 ∷ []) (ls_entry ∷ first_settled ∷ []) [] (page_refused (PageGap 0 1))
  -- settling failed
  pub stays_in_doubt : PageTurn (ls_entry ∷ []) (first_in_doubt ∷ []) (call_of 3) 5 two_records (ls_entry ∷ []) (first_in_doubt ∷ []) page_faulted
  -- the page's own commit failed: it is in doubt, or lost
  pub in_doubt : PageTurn (ls_entry ∷ []) (first_in_doubt ∷ []) (call_of 3) 5 two_records (ls_entry ∷ first_settled ∷ []) (second_taken ∷ []) page_faulted
  pub lost : PageTurn (ls_entry ∷ []) (first_in_doubt ∷ []) (call_of 3) 5 two_records (ls_entry ∷ first_settled ∷ []) [] page_faulted
  -- memory was wanting, before or after settling
  pub short : PageTurn (ls_entry ∷ []) (first_in_doubt ∷ []) (call_of 3) 5 two_records (ls_entry ∷ []) (first_in_doubt ∷ []) page_no_memory
  pub short_settled : PageTurn (ls_entry ∷ []) (first_in_doubt ∷ []) (call_of 3) 5 two_records (ls_entry ∷ first_settled ∷ []) [] page_no_memory
  -- where nothing is in doubt and nothing is fresh, nothing is written that could fail
  pub no_fault : (after doubt_after : List Entry) → PageTurn [] [] (call_of 1) 5 [] after doubt_after page_faulted → ⊥

-- reads beside a session: what is in doubt stays so, and isn't shown
pub record WorkedReadTurns : Type 0 where
  pub status_in_doubt : ReadTurn (ls_entry ∷ []) (first_in_doubt ∷ []) (status_read 5) (ls_entry ∷ []) (first_in_doubt ∷ []) (told_status [])
  pub page_in_doubt : ReadTurn (ls_entry ∷ []) (first_in_doubt ∷ []) (page_read 5 2 (codes "kv") 0 100) (ls_entry ∷ []) (first_in_doubt ∷ []) (told_page [])
  pub front_in_doubt : ReadTurn (ls_entry ∷ []) (first_in_doubt ∷ []) front_read (ls_entry ∷ []) (first_in_doubt ∷ []) (told_front 1)
  -- once both are taken
  pub a_status : ReadTurn (ls_entry ∷ first_settled ∷ second_taken ∷ []) [] (status_read 5) (ls_entry ∷ first_settled ∷ second_taken ∷ []) [] (told_status (record { host = 2; tag = codes "kv"; count = 2 } ∷ []))
  pub other_owner : ReadTurn (ls_entry ∷ first_settled ∷ second_taken ∷ []) [] (status_read 0) (ls_entry ∷ first_settled ∷ second_taken ∷ []) [] (told_status [])
  pub a_page : ReadTurn (ls_entry ∷ first_settled ∷ second_taken ∷ []) [] (page_read 5 2 (codes "kv") 0 100) (ls_entry ∷ first_settled ∷ second_taken ∷ []) [] (told_page two_records)
  pub from_one : ReadTurn (ls_entry ∷ first_settled ∷ second_taken ∷ []) [] (page_read 5 2 (codes "kv") 1 100) (ls_entry ∷ first_settled ∷ second_taken ∷ []) [] (told_page (kv_record 1 1001 ∷ []))
  pub one_record : ReadTurn (ls_entry ∷ first_settled ∷ second_taken ∷ []) [] (page_read 5 2 (codes "kv") 0 1) (ls_entry ∷ first_settled ∷ second_taken ∷ []) [] (told_page (kv_record 0 1000 ∷ []))
  pub a_front : ReadTurn (ls_entry ∷ first_settled ∷ second_taken ∷ []) [] front_read (ls_entry ∷ first_settled ∷ second_taken ∷ []) [] (told_front 3)
  -- the disk may fail under a page alone, and memory may be wanting for all but the front
  pub page_fault : ReadTurn (ls_entry ∷ []) (first_in_doubt ∷ []) (page_read 5 2 (codes "kv") 0 100) (ls_entry ∷ []) (first_in_doubt ∷ []) read_faulted
  pub no_status_fault : (owner : ℕ) (after doubt_after : List Entry) → ReadTurn [] [] (status_read owner) after doubt_after read_faulted → ⊥
  pub no_front_fault : (after doubt_after : List Entry) → ReadTurn [] [] front_read after doubt_after read_faulted → ⊥
  pub short_status : ReadTurn (ls_entry ∷ []) (first_in_doubt ∷ []) (status_read 5) (ls_entry ∷ []) (first_in_doubt ∷ []) read_no_memory
  pub short_page : ReadTurn (ls_entry ∷ []) (first_in_doubt ∷ []) (page_read 5 2 (codes "kv") 0 100) (ls_entry ∷ []) (first_in_doubt ∷ []) read_no_memory
  pub no_short_front : (after doubt_after : List Entry) → ReadTurn [] [] front_read after doubt_after read_no_memory → ⊥
