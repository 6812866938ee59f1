-- The calls of a store, and how long their texts may be. Texts are lists of bytes, ids have 128 bits, durations are in nanoseconds.
-- An argument is named by its field: the first one is field 1.
use Rattle.std.specs.Prelude.{ℕ, ◌+◌, ◌<◌, ◌≤◌, ◌^◌, ℤ, FitsSigned, List, [], ◌∷◌, length, Bool, true, false, Option, Some, None, if◌then◌else◌, nat_lt}
use Rattle.std.specs.Int.{w64}
use Rattle.definitions.specs.Search.{author_length}
use Rattle.definitions.specs.Limits.{most_value_bytes, most_name_bytes, most_call_bytes, most_listed}
use Rattle.view_rules.specs.Answers.{Scope, of_all, of_hostname, of_session, of_cwd, ScopedQuery}

pub data Call : Type 0 where
  start_call : (command cwd session hostname : List ℕ) → Call
  -- the id of a running command, and whoever ran it, where that is told
  end_call : (id : ℕ) (duration exit : ℤ) (author : Option (List ℕ)) → Call
  -- the id of a command that is shown
  delete_call : (id : ℕ) → Call
  search_call : ScopedQuery → Call
  kv_set_call : (namespace key value : List ℕ) → Call
  -- a key of the namespace that has a value
  kv_delete_call : (namespace key : List ℕ) → Call
  kv_get_call : (namespace key : List ℕ) → Call
  -- the keys of a namespace that come after this one
  kv_list_call : (namespace after : List ℕ) (limit : ℕ) → Call
  alias_set_call : (name value : List ℕ) → Call
  alias_delete_call : (name : List ℕ) → Call
  alias_list_call : (after : List ℕ) (limit : ℕ) → Call
  status_call : Call

-- whether the call asks alone; the others write
abbrev pub is_read : Call → Bool
is_read (start_call command cwd session hostname) = false
is_read (end_call id duration exit author) = false
is_read (delete_call id) = false
is_read (search_call asked) = true
is_read (kv_set_call namespace key value) = false
is_read (kv_delete_call namespace key) = false
is_read (kv_get_call namespace key) = true
is_read (kv_list_call namespace after limit) = true
is_read (alias_set_call name value) = false
is_read (alias_delete_call name) = false
is_read (alias_list_call after limit) = true
is_read status_call = true

-- ---- texts that are too long

-- a text that a call stores: its field, and the most bytes that it may have
pub record LimitedText : Type 0 where
  pub field : ℕ
  pub text : List ℕ
  pub most : ℕ

abbrev pub name_field : ℕ → List ℕ → LimitedText
name_field field text = record { field = field; text = text; most = most_name_bytes }

abbrev pub value_field : ℕ → List ℕ → LimitedText
value_field field text = record { field = field; text = text; most = most_value_bytes }

abbrev pub author_field : Option (List ℕ) → List LimitedText
author_field None = []
author_field (Some author) = name_field 4 author ∷ []

-- the texts that a call stores, in the order of its arguments. Nothing else is refused for its length
abbrev pub stored_texts : Call → List LimitedText
stored_texts (start_call command cwd session hostname) = value_field 1 command ∷ name_field 2 cwd ∷ name_field 3 session ∷ name_field 4 hostname ∷ []
stored_texts (end_call id duration exit author) = author_field author
stored_texts (delete_call id) = []
stored_texts (search_call asked) = []
stored_texts (kv_set_call namespace key value) = name_field 1 namespace ∷ name_field 2 key ∷ value_field 3 value ∷ []
stored_texts (kv_delete_call namespace key) = []
stored_texts (kv_get_call namespace key) = []
stored_texts (kv_list_call namespace after limit) = []
stored_texts (alias_set_call name value) = name_field 1 name ∷ value_field 2 value ∷ []
stored_texts (alias_delete_call name) = []
stored_texts (alias_list_call after limit) = []
stored_texts status_call = []

-- a text that is too long: its field, and its length in bytes
pub record LongText : Type 0 where
  pub field : ℕ
  pub length : ℕ

-- the first of the texts that is too long
abbrev pub first_long : List LimitedText → Option LongText
first_long [] = None
first_long (limited ∷ later) = if nat_lt limited.most (length limited.text) then Some (record { field = limited.field; length = length limited.text }) else first_long later

abbrev pub long_text : Call → Option LongText
long_text call = first_long (stored_texts call)

-- ---- calls that a payload can hold

abbrev pub scope_bytes : Scope → ℕ
scope_bytes of_all = 0
scope_bytes (of_hostname text) = length text
scope_bytes (of_session text) = length text
scope_bytes (of_cwd text) = length text

abbrev pub call_bytes : Call → ℕ
call_bytes (start_call command cwd session hostname) = length command + length cwd + length session + length hostname
call_bytes (end_call id duration exit author) = author_length author
call_bytes (delete_call id) = 0
call_bytes (search_call asked) = scope_bytes asked.scope + length asked.query.text
call_bytes (kv_set_call namespace key value) = length namespace + length key + length value
call_bytes (kv_delete_call namespace key) = length namespace + length key
call_bytes (kv_get_call namespace key) = length namespace + length key
call_bytes (kv_list_call namespace after limit) = length namespace + length after
call_bytes (alias_set_call name value) = length name + length value
call_bytes (alias_delete_call name) = length name
call_bytes (alias_list_call after limit) = length after
call_bytes status_call = 0

-- at least 1 is asked for
abbrev pub IsListLimit : ℕ → Type 0
IsListLimit limit = (1 ≤ limit) × (limit ≤ most_listed)

-- ids have 128 bits, durations and exit statuses 64 with a sign, offsets 32
abbrev pub NumbersFit : Call → Type 0
NumbersFit (start_call command cwd session hostname) = Unit {0}
NumbersFit (end_call id duration exit author) = (id < 2 ^ 128) × FitsSigned w64 duration × FitsSigned w64 exit
NumbersFit (delete_call id) = id < 2 ^ 128
NumbersFit (search_call asked) = (asked.query.offset < 2 ^ 32) × IsListLimit asked.query.limit
NumbersFit (kv_set_call namespace key value) = Unit {0}
NumbersFit (kv_delete_call namespace key) = Unit {0}
NumbersFit (kv_get_call namespace key) = Unit {0}
NumbersFit (kv_list_call namespace after limit) = IsListLimit limit
NumbersFit (alias_set_call name value) = Unit {0}
NumbersFit (alias_delete_call name) = Unit {0}
NumbersFit (alias_list_call after limit) = IsListLimit limit
NumbersFit status_call = Unit {0}

-- what a store may be asked
pub record CallFits (call : Call) : Type 0 where
  pub numbers : NumbersFit call
  pub texts : call_bytes call ≤ most_call_bytes
