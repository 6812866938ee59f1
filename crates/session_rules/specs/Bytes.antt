-- Replies and their bytes: an array of 0, the front and the answer's item, or of the refusal's number, the front and its
-- values. Each integer is in its shortest form.
use Rattle.std.specs.Prelude.{ℕ, List, ◌++◌, length, Option, Some, None}
use Rattle.std.specs.List.{flat_map}
use Rattle.definitions.specs.Spelling.{written_text, written_array}
use Rattle.definitions.specs.Ids.{hyphenated}
use Rattle.definitions.specs.Replies.{written_number, ok_bytes, refusal_bytes, refusal_of_bytes, began_bytes, stored_bytes, hits_bytes, unknown_id_bytes, random_fault_bytes, id_taken_bytes, no_memory_bytes, bad_request_bytes}
use Rattle.payload_rules.specs.Items.{written_nil}
use Rattle.record_rules.specs.Journal.{ChainCount}
use Rattle.view_rules.specs.Answers.{Named}
use Rattle.step_rules.specs.Answers.{Refusal, too_long, unknown_id, unknown_name, full, random_fault, id_taken, disk_fault, no_memory, bad_request, Answer, began, stored, hits, value_is, keys, aliases, places, refused, Reply}

-- an array of items that are written so
abbrev pub written_list : {X : Type 0} → (X → List ℕ) → List X → List ℕ
written_list item xs = written_array (length xs) ++ flat_map item xs

-- nil where the key has no value
abbrev pub value_item : Option (List ℕ) → List ℕ
value_item None = written_nil
value_item (Some value) = written_text value

-- a name and its value, and a chain's host, tag and length
abbrev pub alias_item : Named → List ℕ
alias_item named = written_array 2 ++ (written_text named.name ++ written_text named.value)

abbrev pub place_item : ChainCount → List ℕ
place_item chain = written_array 3 ++ (written_text (hyphenated chain.host) ++ (written_text chain.tag ++ written_number chain.count))

-- each refusal under its number, from 1
abbrev pub refused_bytes : ℕ → Refusal → List ℕ
refused_bytes front (too_long field length) = written_array 4 ++ (written_number 1 ++ (written_number front ++ (written_number field ++ written_number length)))
refused_bytes front (unknown_id id) = unknown_id_bytes front id
refused_bytes front (unknown_name name) = refusal_of_bytes 3 front (written_text name)
refused_bytes front (full passed) = written_array 4 ++ (written_number 4 ++ (written_number front ++ (written_number passed.what ++ written_number passed.held)))
refused_bytes front random_fault = random_fault_bytes front
refused_bytes front (id_taken id) = id_taken_bytes front id
refused_bytes front disk_fault = refusal_bytes 7 front
refused_bytes front no_memory = no_memory_bytes front
refused_bytes front (bad_request place) = bad_request_bytes front place

abbrev pub answer_bytes : ℕ → Answer → List ℕ
answer_bytes front (began id) = began_bytes front id
answer_bytes front (stored idx) = stored_bytes front idx
answer_bytes front (hits found) = hits_bytes front found
answer_bytes front (value_is value) = ok_bytes front (value_item value)
answer_bytes front (keys found) = ok_bytes front (written_list written_text found)
answer_bytes front (aliases found) = ok_bytes front (written_list alias_item found)
answer_bytes front (places found) = ok_bytes front (written_list place_item found)
answer_bytes front (refused refusal) = refused_bytes front refusal

abbrev pub reply_bytes : Reply → List ℕ
reply_bytes reply = answer_bytes reply.front reply.answer
