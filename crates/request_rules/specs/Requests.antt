-- Which payload spells which of a store's calls: their numbers, the kinds of their arguments, and what an argument says.
-- What spells a number with arguments, and where a payload goes wrong that is none, is said by `definitions`.
use Rattle.std.specs.Prelude.{◌≡◌, ℕ, ◌-◌, ◌<◌, ◌^◌, pos, List, [], ◌∷◌, Bool, true, false, Option, Some, None, ◌==◌, if◌then◌else◌}
use Rattle.definitions.specs.Ids.{id_text}
use Rattle.definitions.specs.Calls.{mode_number, Argument, a_text, an_integer, Kind, any_text, id_digits, signed_64, from_to, start_kinds, end_kinds, SpellsNumbered}
use Rattle.view_rules.specs.Answers.{Scope, of_all, of_hostname, of_session, of_cwd, ScopedQuery}
use Rattle.definitions.specs.Limits.{most_listed}
use Rattle.step_rules.specs.Calls.{Call, start_call, end_call, delete_call, search_call, kv_set_call, kv_delete_call, kv_get_call, kv_list_call, alias_set_call, alias_delete_call, alias_list_call, status_call}

-- ---- calls by their numbers

-- an End that tells an author has a number of its own
abbrev pub end_number : Option (List ℕ) → ℕ
end_number None = 2
end_number (Some author) = 12

abbrev pub request_number : Call → ℕ
request_number (start_call command cwd session hostname) = 1
request_number (end_call id duration exit author) = end_number author
request_number (delete_call id) = 3
request_number (search_call asked) = 4
request_number (kv_set_call namespace key value) = 5
request_number (kv_get_call namespace key) = 6
request_number (kv_list_call namespace after limit) = 7
request_number (alias_set_call name value) = 8
request_number (alias_delete_call name) = 9
request_number (alias_list_call after limit) = 10
request_number status_call = 11
request_number (kv_delete_call namespace key) = 13

-- hits, keys or aliases that are asked for
abbrev pub limit_kind : Kind
limit_kind = from_to 1 most_listed

-- the arguments of an End, and its author
abbrev pub authored_kinds : List Kind
authored_kinds = id_digits ∷ signed_64 ∷ signed_64 ∷ any_text ∷ []

abbrev pub delete_kinds : List Kind
delete_kinds = id_digits ∷ []

-- mode, filter, text of the filter, text, whether hits are unique, offset and limit
abbrev pub search_kinds : List Kind
search_kinds = from_to 0 1 ∷ from_to 0 3 ∷ any_text ∷ any_text ∷ from_to 0 1 ∷ from_to 0 (2 ^ 32 - 1) ∷ limit_kind ∷ []

-- one, two or three texts
abbrev pub one_text : List Kind
one_text = any_text ∷ []

abbrev pub two_texts : List Kind
two_texts = any_text ∷ any_text ∷ []

abbrev pub three_texts : List Kind
three_texts = any_text ∷ any_text ∷ any_text ∷ []

-- the namespace, the key after which the list begins, and the limit
abbrev pub kv_list_kinds : List Kind
kv_list_kinds = any_text ∷ any_text ∷ limit_kind ∷ []

-- the name after which the list begins, and the limit
abbrev pub alias_list_kinds : List Kind
alias_list_kinds = any_text ∷ limit_kind ∷ []

abbrev pub no_kinds : List Kind
no_kinds = []

-- what the arguments of the call of a number are; no other number is that of a call
abbrev pub call_kinds : ℕ → Option (List Kind)
call_kinds n =
    if n == 1 then Some start_kinds else (if n == 2 then Some end_kinds else (if n == 3 then Some delete_kinds else (if n == 4 then Some search_kinds else (if n == 5 then Some three_texts else (if n == 6 then Some two_texts else (if n == 7 then Some kv_list_kinds else (if n == 8 then Some two_texts else (if n == 9 then Some one_text else (if n == 10 then Some alias_list_kinds else (if n == 11 then Some no_kinds else (if n == 12 then Some authored_kinds else (if n == 13 then Some two_texts else None))))))))))))

-- ---- the arguments of a call

abbrev pub scope_number : Scope → ℕ
scope_number of_all = 0
scope_number (of_hostname text) = 1
scope_number (of_session text) = 2
scope_number (of_cwd text) = 3

-- the text that stands beside a scope's number: any, where the search is of all
abbrev pub IsScopeText : Scope → List ℕ → Type 0
IsScopeText of_all text = Unit {0}
IsScopeText (of_hostname hostname) text = text ≡ hostname
IsScopeText (of_session session) text = text ≡ session
IsScopeText (of_cwd cwd) text = text ≡ cwd

abbrev pub unique_number : Bool → ℕ
unique_number false = 0
unique_number true = 1

abbrev pub a_number : ℕ → Argument
a_number n = an_integer (pos n)

-- an id is given by its 32 digits
abbrev pub an_id : ℕ → Argument
an_id id = a_text (id_text id)

abbrev pub search_arguments : ScopedQuery → List ℕ → List Argument
search_arguments asked scope_text =
    a_number (mode_number asked.query.mode) ∷ a_number (scope_number asked.scope) ∷ a_text scope_text ∷ a_text asked.query.text ∷ a_number (unique_number asked.unique) ∷ a_number asked.query.offset ∷ a_number asked.query.limit ∷ []

-- the author of an End, where it tells one
abbrev pub author_argument : Option (List ℕ) → List Argument
author_argument None = []
author_argument (Some author) = a_text author ∷ []

-- these are arguments of the call; an id has 128 bits
abbrev pub HasArguments : Call → List Argument → Type 0
HasArguments (start_call command cwd session hostname) arguments = arguments ≡ a_text command ∷ a_text cwd ∷ a_text session ∷ a_text hostname ∷ []
HasArguments (end_call id duration exit author) arguments = (id < 2 ^ 128) × (arguments ≡ an_id id ∷ an_integer duration ∷ an_integer exit ∷ author_argument author)
HasArguments (delete_call id) arguments = (id < 2 ^ 128) × (arguments ≡ an_id id ∷ [])
HasArguments (search_call asked) arguments = (scope_text : List ℕ) × IsScopeText asked.scope scope_text × (arguments ≡ search_arguments asked scope_text)
HasArguments (kv_set_call namespace key value) arguments = arguments ≡ a_text namespace ∷ a_text key ∷ a_text value ∷ []
HasArguments (kv_delete_call namespace key) arguments = arguments ≡ a_text namespace ∷ a_text key ∷ []
HasArguments (kv_get_call namespace key) arguments = arguments ≡ a_text namespace ∷ a_text key ∷ []
HasArguments (kv_list_call namespace after limit) arguments = arguments ≡ a_text namespace ∷ a_text after ∷ a_number limit ∷ []
HasArguments (alias_set_call name value) arguments = arguments ≡ a_text name ∷ a_text value ∷ []
HasArguments (alias_delete_call name) arguments = arguments ≡ a_text name ∷ []
HasArguments (alias_list_call after limit) arguments = arguments ≡ a_text after ∷ a_number limit ∷ []
HasArguments status_call arguments = arguments ≡ []

-- ---- payloads

-- the payload is the call's number and arguments of it
pub record SpellsRequest (call : Call) (payload : List ℕ) : Type 0 where
  pub arguments : List Argument
  pub has : HasArguments call arguments
  pub numbered : SpellsNumbered call_kinds (request_number call) arguments payload
