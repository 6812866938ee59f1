-- Replies and their bytes: an array of 0, the front and the answer's item, or of the refusal's number, the front and its
-- values. The front is the number of entries of the journal at which the call was answered.
use Rattle.std.specs.Prelude.{ℕ, pos, List, [], ◌++◌, length, Option, Some, None}
use Rattle.std.specs.List.{flat_map}
use Rattle.definitions.specs.Spelling.{written_integer, written_text, written_array}
use Rattle.definitions.specs.Ids.{id_text}
use Rattle.definitions.specs.Journal.{HistoryRecord}

abbrev pub written_number : ℕ → List ℕ
written_number n = written_integer (pos n)

-- an author, who comes last where there is one
abbrev pub written_author : Option (List ℕ) → List ℕ
written_author None = []
written_author (Some author) = written_text author

-- how many items a hit has
abbrev pub hit_length : Option (List ℕ) → ℕ
hit_length None = 8
hit_length (Some author) = 9

abbrev pub hit_item : HistoryRecord → List ℕ
hit_item h =
    written_array (hit_length h.author) ++ (written_text (id_text h.id) ++ (written_number h.timestamp ++ (written_integer h.duration ++ (written_integer h.exit
    ++ (written_text h.command ++ (written_text h.cwd ++ (written_text h.session ++ (written_text h.hostname ++ written_author h.author))))))))

abbrev pub ok_bytes : ℕ → List ℕ → List ℕ
ok_bytes front item = written_array 3 ++ (written_number 0 ++ (written_number front ++ item))

abbrev pub refusal_bytes : ℕ → ℕ → List ℕ
refusal_bytes number front = written_array 2 ++ (written_number number ++ written_number front)

abbrev pub refusal_of_bytes : ℕ → ℕ → List ℕ → List ℕ
refusal_of_bytes number front value = written_array 3 ++ (written_number number ++ (written_number front ++ value))

-- ---- the answers, and the refusals under their numbers

abbrev pub began_bytes : ℕ → ℕ → List ℕ
began_bytes front id = ok_bytes front (written_text (id_text id))

abbrev pub stored_bytes : ℕ → ℕ → List ℕ
stored_bytes front index = ok_bytes front (written_number index)

abbrev pub hits_bytes : ℕ → List HistoryRecord → List ℕ
hits_bytes front hits = ok_bytes front (written_array (length hits) ++ flat_map hit_item hits)

abbrev pub unknown_id_bytes : ℕ → ℕ → List ℕ
unknown_id_bytes front id = refusal_of_bytes 2 front (written_text (id_text id))

abbrev pub random_fault_bytes : ℕ → List ℕ
random_fault_bytes front = refusal_bytes 5 front

abbrev pub id_taken_bytes : ℕ → ℕ → List ℕ
id_taken_bytes front id = refusal_of_bytes 6 front (written_text (id_text id))

abbrev pub no_memory_bytes : ℕ → List ℕ
no_memory_bytes front = refusal_bytes 8 front

abbrev pub bad_request_bytes : ℕ → ℕ → List ℕ
bad_request_bytes front place = refusal_of_bytes 9 front (written_number place)
