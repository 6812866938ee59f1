-- Worked examples: a payload of each call, and payloads that are wrong. Texts are ASCII.
use Rattle.std.specs.Prelude.{ℕ, pos, negsuc, List, [], ◌∷◌, ◌++◌, codes, true, false, Some, None}
use Rattle.definitions.specs.Calls.{by_prefix, by_substring, WrongAt}
use Rattle.view_rules.specs.Answers.{of_all, of_hostname, ScopedQuery}
use Rattle.step_rules.specs.Calls.{start_call, end_call, delete_call, search_call, kv_set_call, kv_delete_call, kv_get_call, kv_list_call, alias_set_call, alias_delete_call, alias_list_call, status_call}
use Rattle.request_rules.specs.Requests.{call_kinds, SpellsRequest}

-- the id 10 in its digits
abbrev pub ten_digits : List ℕ
ten_digits = codes "0000000000000000000000000000000a"

-- the unique hits with "l" in their text on the host "h:u", three at most, without the first two
abbrev pub host_search : ScopedQuery
host_search = record { scope = of_hostname (codes "h:u"); unique = true; query = record { mode = by_substring; text = codes "l"; offset = 2; limit = 3 } }

-- the first of all hits whose text begins with "l"
abbrev pub plain_search : ScopedQuery
plain_search = record { scope = of_all; unique = false; query = record { mode = by_prefix; text = codes "l"; offset = 0; limit = 1 } }

pub record WorkedCalls : Type 0 where
  pub start : SpellsRequest (start_call (codes "ls") (codes "/") (codes "s1") (codes "h:u")) (0x95 ∷ 0x01 ∷ 0xa2 ∷ 0x6c ∷ 0x73 ∷ 0xa1 ∷ 0x2f ∷ 0xa2 ∷ 0x73 ∷ 0x31 ∷ 0xa3 ∷ 0x68 ∷ 0x3a ∷ 0x75 ∷ [])
  -- 1,000 ns, status -1
  pub end : SpellsRequest (end_call 10 (pos 1000) (negsuc 0) None) (0x94 ∷ 0x02 ∷ 0xd9 ∷ 0x20 ∷ (ten_digits ++ 0xcd ∷ 0x03 ∷ 0xe8 ∷ 0xff ∷ []))
  -- an End with the author "me", and the deletion of a pair
  pub authored_end : SpellsRequest (end_call 10 (pos 1000) (pos 0) (Some (codes "me"))) (0x95 ∷ 0x0c ∷ 0xd9 ∷ 0x20 ∷ (ten_digits ++ 0xcd ∷ 0x03 ∷ 0xe8 ∷ 0x00 ∷ 0xa2 ∷ 0x6d ∷ 0x65 ∷ []))
  pub kv_delete : SpellsRequest (kv_delete_call (codes "n") (codes "k")) (0x93 ∷ 0x0d ∷ 0xa1 ∷ 0x6e ∷ 0xa1 ∷ 0x6b ∷ [])
  pub delete : SpellsRequest (delete_call 10) (0x92 ∷ 0x03 ∷ 0xd9 ∷ 0x20 ∷ ten_digits)
  pub search : SpellsRequest (search_call host_search) (0x98 ∷ 0x04 ∷ 0x01 ∷ 0x01 ∷ 0xa3 ∷ 0x68 ∷ 0x3a ∷ 0x75 ∷ 0xa1 ∷ 0x6c ∷ 0x01 ∷ 0x02 ∷ 0x03 ∷ [])
  -- the filter's text "x" is read past
  pub search_of_all : SpellsRequest (search_call plain_search) (0x98 ∷ 0x04 ∷ 0x00 ∷ 0x00 ∷ 0xa1 ∷ 0x78 ∷ 0xa1 ∷ 0x6c ∷ 0x00 ∷ 0x00 ∷ 0x01 ∷ [])
  pub kv_set : SpellsRequest (kv_set_call (codes "n") (codes "k") (codes "v")) (0x94 ∷ 0x05 ∷ 0xa1 ∷ 0x6e ∷ 0xa1 ∷ 0x6b ∷ 0xa1 ∷ 0x76 ∷ [])
  pub kv_get : SpellsRequest (kv_get_call (codes "n") (codes "k")) (0x93 ∷ 0x06 ∷ 0xa1 ∷ 0x6e ∷ 0xa1 ∷ 0x6b ∷ [])
  -- 1,000 keys at most
  pub kv_list : SpellsRequest (kv_list_call (codes "n") (codes "k") 1000) (0x94 ∷ 0x07 ∷ 0xa1 ∷ 0x6e ∷ 0xa1 ∷ 0x6b ∷ 0xcd ∷ 0x03 ∷ 0xe8 ∷ [])
  pub alias_set : SpellsRequest (alias_set_call (codes "n") (codes "v")) (0x93 ∷ 0x08 ∷ 0xa1 ∷ 0x6e ∷ 0xa1 ∷ 0x76 ∷ [])
  pub alias_delete : SpellsRequest (alias_delete_call (codes "n")) (0x92 ∷ 0x09 ∷ 0xa1 ∷ 0x6e ∷ [])
  -- the limit 1 in two bytes
  pub alias_list : SpellsRequest (alias_list_call (codes "n") 1) (0x93 ∷ 0x0a ∷ 0xa1 ∷ 0x6e ∷ 0xcc ∷ 0x01 ∷ [])
  pub status : SpellsRequest status_call (0x91 ∷ 0x0b ∷ [])

pub record WorkedFaults : Type 0 where
  -- nothing, an array of no items, and one of nine
  pub nothing : WrongAt call_kinds [] 0
  pub no_items : WrongAt call_kinds (0x90 ∷ []) 0
  pub nine_items : WrongAt call_kinds (0x99 ∷ 0x0b ∷ []) 0
  -- a number that no call has is found before the array's length is
  pub number : WrongAt call_kinds (0x95 ∷ 0x0e ∷ []) 1
  -- and -1 is the number of none
  pub negative : WrongAt call_kinds (0x91 ∷ 0xff ∷ []) 1
  -- a Status with an argument: the array's length is wrong
  pub items : WrongAt call_kinds (0x92 ∷ 0x0b ∷ 0x00 ∷ []) 0
  -- an End with an author under the number of one without
  pub author : WrongAt call_kinds (0x95 ∷ 0x02 ∷ 0xd9 ∷ 0x20 ∷ (ten_digits ++ 0xcd ∷ 0x03 ∷ 0xe8 ∷ 0x00 ∷ 0xa2 ∷ 0x6d ∷ 0x65 ∷ [])) 0
  -- a Delete whose id is the text "a", and one whose id has a capital digit
  pub id : WrongAt call_kinds (0x92 ∷ 0x03 ∷ 0xa1 ∷ 0x61 ∷ []) 2
  pub capital_id : WrongAt call_kinds (0x92 ∷ 0x03 ∷ 0xd9 ∷ 0x20 ∷ codes "0000000000000000000000000000000A") 2
  -- a Search with the mode 2, the filter 4, and 2 for whether hits are unique
  pub mode : WrongAt call_kinds (0x98 ∷ 0x04 ∷ 0x02 ∷ 0x00 ∷ 0xa0 ∷ 0xa0 ∷ 0x00 ∷ 0x00 ∷ 0x01 ∷ []) 2
  pub filter : WrongAt call_kinds (0x98 ∷ 0x04 ∷ 0x00 ∷ 0x04 ∷ 0xa0 ∷ 0xa0 ∷ 0x00 ∷ 0x00 ∷ 0x01 ∷ []) 3
  pub unique : WrongAt call_kinds (0x98 ∷ 0x04 ∷ 0x00 ∷ 0x00 ∷ 0xa0 ∷ 0xa0 ∷ 0x02 ∷ 0x00 ∷ 0x01 ∷ []) 6
  -- an AliasList with the limit 0, and a KvList with the limit 1,001
  pub limit : WrongAt call_kinds (0x93 ∷ 0x0a ∷ 0xa0 ∷ 0x00 ∷ []) 3
  pub great_limit : WrongAt call_kinds (0x94 ∷ 0x07 ∷ 0xa0 ∷ 0xa0 ∷ 0xcd ∷ 0x03 ∷ 0xe9 ∷ []) 4
  -- a KvGet whose key is cut
  pub cut : WrongAt call_kinds (0x93 ∷ 0x06 ∷ 0xa1 ∷ 0x6e ∷ 0xa2 ∷ 0x6b ∷ []) 4
  -- a byte behind a Status
  pub behind : WrongAt call_kinds (0x91 ∷ 0x0b ∷ 0x00 ∷ []) 2
