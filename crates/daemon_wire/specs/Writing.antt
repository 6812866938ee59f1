-- What is asked of a reply that is written, and what its parts write.
use Rattle.std.specs.Prelude.{◌≡◌, ℕ, ◌≤◌, ◌<◌, ◌^◌, List, ◌++◌, length, take}
use Rattle.definitions.specs.Ids.{id_text}
use Rattle.definitions.specs.Journal.{HistoryRecord}
use Rattle.definitions.specs.Replies.{written_number, written_author, hit_length}
use Rattle.definitions.specs.Spelling.{written_array, written_text, written_integer}
use Rattle.step_rules.specs.Answers.{Answer, hits, value_is, keys, aliases, places, refused, unknown_name}

-- the lists of an answer are those that an array can hold
abbrev pub IsCounted : Answer → Type 0
IsCounted (hits found) = length found < 2 ^ 32
IsCounted (keys found) = length found < 2 ^ 32
IsCounted (aliases found) = length found < 2 ^ 32
IsCounted (places found) = length found < 2 ^ 32
IsCounted _ = Unit {0}

-- the answer's bytes need no more room than a caller keeps spare: an id, an index, or a refusal that names no text
abbrev pub IsShort : Answer → Type 0
IsShort (hits found) = ⊥
IsShort (value_is value) = ⊥
IsShort (keys found) = ⊥
IsShort (aliases found) = ⊥
IsShort (places found) = ⊥
IsShort (refused (unknown_name name)) = ⊥
IsShort _ = Unit {0}

-- the bytes that stood before stand still, whatever stands behind them
abbrev pub Keeps : List ℕ → List ℕ → Type 0
Keeps before after = (n : ℕ) → n ≤ length before → take n after ≡ take n before

-- the header of a reply's array, the number of its refusal or 0, and the front
abbrev pub head_bytes : ℕ → ℕ → ℕ → List ℕ
head_bytes items number front = written_array items ++ (written_number number ++ written_number front)

-- the three parts of a hit's item
abbrev pub hit_head : HistoryRecord → List ℕ
hit_head h = written_array (hit_length h.author) ++ written_text (id_text h.id)

abbrev pub hit_numbers : HistoryRecord → List ℕ
hit_numbers h = written_number h.timestamp ++ (written_integer h.duration ++ written_integer h.exit)

unfoldable pub hit_texts : HistoryRecord → List ℕ
hit_texts h = written_text h.command ++ (written_text h.cwd ++ (written_text h.session ++ (written_text h.hostname ++ written_author h.author)))

-- a refusal that tells two numbers
abbrev pub numbers_bytes : ℕ → ℕ → ℕ → ℕ → List ℕ
numbers_bytes number front first second = written_array 4 ++ (written_number number ++ (written_number front ++ (written_number first ++ written_number second)))
