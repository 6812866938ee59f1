-- The worked payloads: each is read, and the laws of reading say the rest.
use Rattle.std.proofs.Common.{◌≡◌, ℕ, zero, suc, ◌-◌, ◌≤◌, ltb, Bool, true, pos, negsuc, List, [], ◌∷◌, ◌++◌, length, Some, None, Ok, Err, refl, arith}
use Rattle.std.specs.Prelude.{codes}
use Rattle.std.specs.List.{list_all}
use Rattle.std.specs.Str.{is_utf8, chars}
use Rattle.std.proofs.lemmas.Bool.{ltb-true}
use Rattle.definitions.specs.Spelling.{IsBytes}
use Rattle.definitions.specs.Ids.{id_text}
use Rattle.definitions.specs.Calls.{Argument, a_text, an_integer, WrongAt}
use Rattle.definitions.specs.Reading.{array_at, integer_at, text_head_at, text_at, argument_at, arguments_at, last_arguments_at, call_at}
use Rattle.definitions.proofs.Items.{both_true}
use Rattle.step_rules.specs.Calls.{Call, start_call, end_call, delete_call, search_call, kv_set_call, kv_delete_call, kv_get_call, kv_list_call, alias_set_call, alias_delete_call, alias_list_call, status_call}
use Rattle.request_rules.specs.Requests.{request_number, call_kinds, a_number, an_id, search_arguments, HasArguments, SpellsRequest}
use Rattle.request_rules.specs.Examples.{ten_digits, host_search, plain_search, WorkedCalls, WorkedFaults}
use Rattle.request_rules.proofs.Requests.{reading_call, reading_place}

abbrev all_bytes : List ℕ → Bool
all_bytes bytes = list_all (λ (b : ℕ). ltb b 256) bytes

are_bytes : (bytes : List ℕ) → all_bytes bytes ≡ true → IsBytes bytes
are_bytes [] e i = omega arith
are_bytes (b ∷ bytes) e zero = ltb-true b 256 (both_true (ltb b 256) (all_bytes bytes) e).0
are_bytes (b ∷ bytes) e (suc i) = are_bytes bytes (both_true (ltb b 256) (all_bytes bytes) e).1 i

spelled_so : (payload : List ℕ) (call : Call) (good : List Argument) → all_bytes payload ≡ true → HasArguments call good → call_at call_kinds payload ≡ Ok (pos (request_number call), good) → SpellsRequest call payload
spelled_so payload call good are has e = (reading_call payload call (are_bytes payload are)).1 (good, has, e)

wrong_there : (payload : List ℕ) (place : ℕ) → all_bytes payload ≡ true → place ≤ length payload → call_at call_kinds payload ≡ Err (length payload - place) → WrongAt call_kinds payload place
wrong_there payload place are le e = (reading_place payload place (are_bytes payload are)).1 (e, le)

start : SpellsRequest (start_call (codes "ls") (codes "/") (codes "s1") (codes "h:u")) (0x95 ∷ 0x01 ∷ 0xa2 ∷ 0x6c ∷ 0x73 ∷ 0xa1 ∷ 0x2f ∷ 0xa2 ∷ 0x73 ∷ 0x31 ∷ 0xa3 ∷ 0x68 ∷ 0x3a ∷ 0x75 ∷ [])
unfolding call_at last_arguments_at arguments_at argument_at array_at integer_at text_at text_head_at id_text is_utf8 chars lib.Utf8.encode
start = spelled_so (0x95 ∷ 0x01 ∷ 0xa2 ∷ 0x6c ∷ 0x73 ∷ 0xa1 ∷ 0x2f ∷ 0xa2 ∷ 0x73 ∷ 0x31 ∷ 0xa3 ∷ 0x68 ∷ 0x3a ∷ 0x75 ∷ []) (start_call (codes "ls") (codes "/") (codes "s1") (codes "h:u")) (a_text (codes "ls") ∷ a_text (codes "/") ∷ a_text (codes "s1") ∷ a_text (codes "h:u") ∷ []) refl refl refl

end : SpellsRequest (end_call 10 (pos 1000) (negsuc 0) None) (0x94 ∷ 0x02 ∷ 0xd9 ∷ 0x20 ∷ (ten_digits ++ 0xcd ∷ 0x03 ∷ 0xe8 ∷ 0xff ∷ []))
unfolding call_at last_arguments_at arguments_at argument_at array_at integer_at text_at text_head_at id_text is_utf8 chars lib.Utf8.encode
end = spelled_so (0x94 ∷ 0x02 ∷ 0xd9 ∷ 0x20 ∷ (ten_digits ++ 0xcd ∷ 0x03 ∷ 0xe8 ∷ 0xff ∷ [])) (end_call 10 (pos 1000) (negsuc 0) None) (an_id 10 ∷ an_integer (pos 1000) ∷ an_integer (negsuc 0) ∷ []) refl (omega arith, refl) refl

authored_end : SpellsRequest (end_call 10 (pos 1000) (pos 0) (Some (codes "me"))) (0x95 ∷ 0x0c ∷ 0xd9 ∷ 0x20 ∷ (ten_digits ++ 0xcd ∷ 0x03 ∷ 0xe8 ∷ 0x00 ∷ 0xa2 ∷ 0x6d ∷ 0x65 ∷ []))
unfolding call_at last_arguments_at arguments_at argument_at array_at integer_at text_at text_head_at id_text is_utf8 chars lib.Utf8.encode
authored_end = spelled_so (0x95 ∷ 0x0c ∷ 0xd9 ∷ 0x20 ∷ (ten_digits ++ 0xcd ∷ 0x03 ∷ 0xe8 ∷ 0x00 ∷ 0xa2 ∷ 0x6d ∷ 0x65 ∷ [])) (end_call 10 (pos 1000) (pos 0) (Some (codes "me"))) (an_id 10 ∷ an_integer (pos 1000) ∷ an_integer (pos 0) ∷ a_text (codes "me") ∷ []) refl (omega arith, refl) refl

kv_delete : SpellsRequest (kv_delete_call (codes "n") (codes "k")) (0x93 ∷ 0x0d ∷ 0xa1 ∷ 0x6e ∷ 0xa1 ∷ 0x6b ∷ [])
unfolding call_at last_arguments_at arguments_at argument_at array_at integer_at text_at text_head_at id_text is_utf8 chars lib.Utf8.encode
kv_delete = spelled_so (0x93 ∷ 0x0d ∷ 0xa1 ∷ 0x6e ∷ 0xa1 ∷ 0x6b ∷ []) (kv_delete_call (codes "n") (codes "k")) (a_text (codes "n") ∷ a_text (codes "k") ∷ []) refl refl refl

delete : SpellsRequest (delete_call 10) (0x92 ∷ 0x03 ∷ 0xd9 ∷ 0x20 ∷ ten_digits)
unfolding call_at last_arguments_at arguments_at argument_at array_at integer_at text_at text_head_at id_text is_utf8 chars lib.Utf8.encode
delete = spelled_so (0x92 ∷ 0x03 ∷ 0xd9 ∷ 0x20 ∷ ten_digits) (delete_call 10) (an_id 10 ∷ []) refl (omega arith, refl) refl

search : SpellsRequest (search_call host_search) (0x98 ∷ 0x04 ∷ 0x01 ∷ 0x01 ∷ 0xa3 ∷ 0x68 ∷ 0x3a ∷ 0x75 ∷ 0xa1 ∷ 0x6c ∷ 0x01 ∷ 0x02 ∷ 0x03 ∷ [])
unfolding call_at last_arguments_at arguments_at argument_at array_at integer_at text_at text_head_at id_text is_utf8 chars lib.Utf8.encode
search = spelled_so (0x98 ∷ 0x04 ∷ 0x01 ∷ 0x01 ∷ 0xa3 ∷ 0x68 ∷ 0x3a ∷ 0x75 ∷ 0xa1 ∷ 0x6c ∷ 0x01 ∷ 0x02 ∷ 0x03 ∷ []) (search_call host_search) (search_arguments host_search (codes "h:u")) refl (codes "h:u", refl, refl) refl

search_of_all : SpellsRequest (search_call plain_search) (0x98 ∷ 0x04 ∷ 0x00 ∷ 0x00 ∷ 0xa1 ∷ 0x78 ∷ 0xa1 ∷ 0x6c ∷ 0x00 ∷ 0x00 ∷ 0x01 ∷ [])
unfolding call_at last_arguments_at arguments_at argument_at array_at integer_at text_at text_head_at id_text is_utf8 chars lib.Utf8.encode
search_of_all = spelled_so (0x98 ∷ 0x04 ∷ 0x00 ∷ 0x00 ∷ 0xa1 ∷ 0x78 ∷ 0xa1 ∷ 0x6c ∷ 0x00 ∷ 0x00 ∷ 0x01 ∷ []) (search_call plain_search) (search_arguments plain_search (codes "x")) refl (codes "x", tt, refl) refl

kv_set : SpellsRequest (kv_set_call (codes "n") (codes "k") (codes "v")) (0x94 ∷ 0x05 ∷ 0xa1 ∷ 0x6e ∷ 0xa1 ∷ 0x6b ∷ 0xa1 ∷ 0x76 ∷ [])
unfolding call_at last_arguments_at arguments_at argument_at array_at integer_at text_at text_head_at id_text is_utf8 chars lib.Utf8.encode
kv_set = spelled_so (0x94 ∷ 0x05 ∷ 0xa1 ∷ 0x6e ∷ 0xa1 ∷ 0x6b ∷ 0xa1 ∷ 0x76 ∷ []) (kv_set_call (codes "n") (codes "k") (codes "v")) (a_text (codes "n") ∷ a_text (codes "k") ∷ a_text (codes "v") ∷ []) refl refl refl

kv_get : SpellsRequest (kv_get_call (codes "n") (codes "k")) (0x93 ∷ 0x06 ∷ 0xa1 ∷ 0x6e ∷ 0xa1 ∷ 0x6b ∷ [])
unfolding call_at last_arguments_at arguments_at argument_at array_at integer_at text_at text_head_at id_text is_utf8 chars lib.Utf8.encode
kv_get = spelled_so (0x93 ∷ 0x06 ∷ 0xa1 ∷ 0x6e ∷ 0xa1 ∷ 0x6b ∷ []) (kv_get_call (codes "n") (codes "k")) (a_text (codes "n") ∷ a_text (codes "k") ∷ []) refl refl refl

kv_list : SpellsRequest (kv_list_call (codes "n") (codes "k") 1000) (0x94 ∷ 0x07 ∷ 0xa1 ∷ 0x6e ∷ 0xa1 ∷ 0x6b ∷ 0xcd ∷ 0x03 ∷ 0xe8 ∷ [])
unfolding call_at last_arguments_at arguments_at argument_at array_at integer_at text_at text_head_at id_text is_utf8 chars lib.Utf8.encode
kv_list = spelled_so (0x94 ∷ 0x07 ∷ 0xa1 ∷ 0x6e ∷ 0xa1 ∷ 0x6b ∷ 0xcd ∷ 0x03 ∷ 0xe8 ∷ []) (kv_list_call (codes "n") (codes "k") 1000) (a_text (codes "n") ∷ a_text (codes "k") ∷ a_number 1000 ∷ []) refl refl refl

alias_set : SpellsRequest (alias_set_call (codes "n") (codes "v")) (0x93 ∷ 0x08 ∷ 0xa1 ∷ 0x6e ∷ 0xa1 ∷ 0x76 ∷ [])
unfolding call_at last_arguments_at arguments_at argument_at array_at integer_at text_at text_head_at id_text is_utf8 chars lib.Utf8.encode
alias_set = spelled_so (0x93 ∷ 0x08 ∷ 0xa1 ∷ 0x6e ∷ 0xa1 ∷ 0x76 ∷ []) (alias_set_call (codes "n") (codes "v")) (a_text (codes "n") ∷ a_text (codes "v") ∷ []) refl refl refl

alias_delete : SpellsRequest (alias_delete_call (codes "n")) (0x92 ∷ 0x09 ∷ 0xa1 ∷ 0x6e ∷ [])
unfolding call_at last_arguments_at arguments_at argument_at array_at integer_at text_at text_head_at id_text is_utf8 chars lib.Utf8.encode
alias_delete = spelled_so (0x92 ∷ 0x09 ∷ 0xa1 ∷ 0x6e ∷ []) (alias_delete_call (codes "n")) (a_text (codes "n") ∷ []) refl refl refl

alias_list : SpellsRequest (alias_list_call (codes "n") 1) (0x93 ∷ 0x0a ∷ 0xa1 ∷ 0x6e ∷ 0xcc ∷ 0x01 ∷ [])
unfolding call_at last_arguments_at arguments_at argument_at array_at integer_at text_at text_head_at id_text is_utf8 chars lib.Utf8.encode
alias_list = spelled_so (0x93 ∷ 0x0a ∷ 0xa1 ∷ 0x6e ∷ 0xcc ∷ 0x01 ∷ []) (alias_list_call (codes "n") 1) (a_text (codes "n") ∷ a_number 1 ∷ []) refl refl refl

status : SpellsRequest status_call (0x91 ∷ 0x0b ∷ [])
unfolding call_at last_arguments_at arguments_at argument_at array_at integer_at text_at text_head_at id_text is_utf8 chars lib.Utf8.encode
status = spelled_so (0x91 ∷ 0x0b ∷ []) status_call ([]) refl refl refl

nothing : WrongAt call_kinds [] 0
unfolding call_at last_arguments_at arguments_at argument_at array_at integer_at text_at text_head_at id_text is_utf8 chars lib.Utf8.encode
nothing = wrong_there [] 0 refl (omega arith) refl

no_items : WrongAt call_kinds (0x90 ∷ []) 0
unfolding call_at last_arguments_at arguments_at argument_at array_at integer_at text_at text_head_at id_text is_utf8 chars lib.Utf8.encode
no_items = wrong_there (0x90 ∷ []) 0 refl (omega arith) refl

nine_items : WrongAt call_kinds (0x99 ∷ 0x0b ∷ []) 0
unfolding call_at last_arguments_at arguments_at argument_at array_at integer_at text_at text_head_at id_text is_utf8 chars lib.Utf8.encode
nine_items = wrong_there (0x99 ∷ 0x0b ∷ []) 0 refl (omega arith) refl

number : WrongAt call_kinds (0x95 ∷ 0x0e ∷ []) 1
unfolding call_at last_arguments_at arguments_at argument_at array_at integer_at text_at text_head_at id_text is_utf8 chars lib.Utf8.encode
number = wrong_there (0x95 ∷ 0x0e ∷ []) 1 refl (omega arith) refl

negative : WrongAt call_kinds (0x91 ∷ 0xff ∷ []) 1
unfolding call_at last_arguments_at arguments_at argument_at array_at integer_at text_at text_head_at id_text is_utf8 chars lib.Utf8.encode
negative = wrong_there (0x91 ∷ 0xff ∷ []) 1 refl (omega arith) refl

items : WrongAt call_kinds (0x92 ∷ 0x0b ∷ 0x00 ∷ []) 0
unfolding call_at last_arguments_at arguments_at argument_at array_at integer_at text_at text_head_at id_text is_utf8 chars lib.Utf8.encode
items = wrong_there (0x92 ∷ 0x0b ∷ 0x00 ∷ []) 0 refl (omega arith) refl

author : WrongAt call_kinds (0x95 ∷ 0x02 ∷ 0xd9 ∷ 0x20 ∷ (ten_digits ++ 0xcd ∷ 0x03 ∷ 0xe8 ∷ 0x00 ∷ 0xa2 ∷ 0x6d ∷ 0x65 ∷ [])) 0
unfolding call_at last_arguments_at arguments_at argument_at array_at integer_at text_at text_head_at id_text is_utf8 chars lib.Utf8.encode
author = wrong_there (0x95 ∷ 0x02 ∷ 0xd9 ∷ 0x20 ∷ (ten_digits ++ 0xcd ∷ 0x03 ∷ 0xe8 ∷ 0x00 ∷ 0xa2 ∷ 0x6d ∷ 0x65 ∷ [])) 0 refl (omega arith) refl

id : WrongAt call_kinds (0x92 ∷ 0x03 ∷ 0xa1 ∷ 0x61 ∷ []) 2
unfolding call_at last_arguments_at arguments_at argument_at array_at integer_at text_at text_head_at id_text is_utf8 chars lib.Utf8.encode
id = wrong_there (0x92 ∷ 0x03 ∷ 0xa1 ∷ 0x61 ∷ []) 2 refl (omega arith) refl

capital_id : WrongAt call_kinds (0x92 ∷ 0x03 ∷ 0xd9 ∷ 0x20 ∷ codes "0000000000000000000000000000000A") 2
unfolding call_at last_arguments_at arguments_at argument_at array_at integer_at text_at text_head_at id_text is_utf8 chars lib.Utf8.encode
capital_id = wrong_there (0x92 ∷ 0x03 ∷ 0xd9 ∷ 0x20 ∷ codes "0000000000000000000000000000000A") 2 refl (omega arith) refl

mode : WrongAt call_kinds (0x98 ∷ 0x04 ∷ 0x02 ∷ 0x00 ∷ 0xa0 ∷ 0xa0 ∷ 0x00 ∷ 0x00 ∷ 0x01 ∷ []) 2
unfolding call_at last_arguments_at arguments_at argument_at array_at integer_at text_at text_head_at id_text is_utf8 chars lib.Utf8.encode
mode = wrong_there (0x98 ∷ 0x04 ∷ 0x02 ∷ 0x00 ∷ 0xa0 ∷ 0xa0 ∷ 0x00 ∷ 0x00 ∷ 0x01 ∷ []) 2 refl (omega arith) refl

filter : WrongAt call_kinds (0x98 ∷ 0x04 ∷ 0x00 ∷ 0x04 ∷ 0xa0 ∷ 0xa0 ∷ 0x00 ∷ 0x00 ∷ 0x01 ∷ []) 3
unfolding call_at last_arguments_at arguments_at argument_at array_at integer_at text_at text_head_at id_text is_utf8 chars lib.Utf8.encode
filter = wrong_there (0x98 ∷ 0x04 ∷ 0x00 ∷ 0x04 ∷ 0xa0 ∷ 0xa0 ∷ 0x00 ∷ 0x00 ∷ 0x01 ∷ []) 3 refl (omega arith) refl

unique : WrongAt call_kinds (0x98 ∷ 0x04 ∷ 0x00 ∷ 0x00 ∷ 0xa0 ∷ 0xa0 ∷ 0x02 ∷ 0x00 ∷ 0x01 ∷ []) 6
unfolding call_at last_arguments_at arguments_at argument_at array_at integer_at text_at text_head_at id_text is_utf8 chars lib.Utf8.encode
unique = wrong_there (0x98 ∷ 0x04 ∷ 0x00 ∷ 0x00 ∷ 0xa0 ∷ 0xa0 ∷ 0x02 ∷ 0x00 ∷ 0x01 ∷ []) 6 refl (omega arith) refl

limit : WrongAt call_kinds (0x93 ∷ 0x0a ∷ 0xa0 ∷ 0x00 ∷ []) 3
unfolding call_at last_arguments_at arguments_at argument_at array_at integer_at text_at text_head_at id_text is_utf8 chars lib.Utf8.encode
limit = wrong_there (0x93 ∷ 0x0a ∷ 0xa0 ∷ 0x00 ∷ []) 3 refl (omega arith) refl

great_limit : WrongAt call_kinds (0x94 ∷ 0x07 ∷ 0xa0 ∷ 0xa0 ∷ 0xcd ∷ 0x03 ∷ 0xe9 ∷ []) 4
unfolding call_at last_arguments_at arguments_at argument_at array_at integer_at text_at text_head_at id_text is_utf8 chars lib.Utf8.encode
great_limit = wrong_there (0x94 ∷ 0x07 ∷ 0xa0 ∷ 0xa0 ∷ 0xcd ∷ 0x03 ∷ 0xe9 ∷ []) 4 refl (omega arith) refl

cut : WrongAt call_kinds (0x93 ∷ 0x06 ∷ 0xa1 ∷ 0x6e ∷ 0xa2 ∷ 0x6b ∷ []) 4
unfolding call_at last_arguments_at arguments_at argument_at array_at integer_at text_at text_head_at id_text is_utf8 chars lib.Utf8.encode
cut = wrong_there (0x93 ∷ 0x06 ∷ 0xa1 ∷ 0x6e ∷ 0xa2 ∷ 0x6b ∷ []) 4 refl (omega arith) refl

behind : WrongAt call_kinds (0x91 ∷ 0x0b ∷ 0x00 ∷ []) 2
unfolding call_at last_arguments_at arguments_at argument_at array_at integer_at text_at text_head_at id_text is_utf8 chars lib.Utf8.encode
behind = wrong_there (0x91 ∷ 0x0b ∷ 0x00 ∷ []) 2 refl (omega arith) refl

pub calls : WorkedCalls
calls = record { start = start; end = end; authored_end = authored_end; kv_delete = kv_delete; delete = delete; search = search; search_of_all = search_of_all; kv_set = kv_set; kv_get = kv_get; kv_list = kv_list; alias_set = alias_set; alias_delete = alias_delete; alias_list = alias_list; status = status }

pub faults : WorkedFaults
faults = record { nothing = nothing; no_items = no_items; nine_items = nine_items; number = number; negative = negative; items = items; author = author; id = id; capital_id = capital_id; mode = mode; filter = filter; unique = unique; limit = limit; great_limit = great_limit; cut = cut; behind = behind }
