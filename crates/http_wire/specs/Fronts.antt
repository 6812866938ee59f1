-- The front of a message: its bytes up to the 65,536th or up to the 102nd line feed, whichever comes first. A head is looked for
-- there alone, so that no peer can make a reader gather more than that for one.
use Rattle.std.specs.Prelude.{◌⊎◌, ℕ, ◌-◌, ◌≤◌, Bool, ◌==◌, List, [], ◌∷◌, take, length, if◌then◌else◌}
use Rattle.std.specs.List.{count_by}

abbrev pub most_head_bytes : ℕ
most_head_bytes = 65536

abbrev pub most_head_lines : ℕ
most_head_lines = 102

abbrev pub is_line_feed : ℕ → Bool
is_line_feed b = b == 10

abbrev pub lines_of : List ℕ → ℕ
lines_of bytes = count_by is_line_feed bytes

-- the bytes up to and including the line feed of this number from 1, or all of them; none at 0
abbrev pub through_line : ℕ → List ℕ → List ℕ
through_line lines [] = []
through_line lines (b ∷ bytes) = if lines == 0 then [] else b ∷ through_line (if is_line_feed b then lines - 1 else lines) bytes

abbrev pub front_of : List ℕ → List ℕ
front_of bytes = through_line most_head_lines (take most_head_bytes bytes)

-- no byte behind these belongs to the front
abbrev pub IsFull : List ℕ → Type 0
IsFull bytes = (most_head_bytes ≤ length bytes) ⊎ (most_head_lines ≤ lines_of bytes)
