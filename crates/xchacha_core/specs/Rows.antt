-- Four rows of words, with the states of some blocks side by side: columns 4 * b to 4 * b + 3 are the
-- state of block b.
use Rattle.std.specs.Prelude.{◌≡◌, ℕ, ◌+◌, ◌*◌, ◌/◌, ◌%◌, List, [], ◌∷◌, ◌++◌, length, map, slice_index, slice_set}
use Rattle.std.specs.List.{range_with_len}
use Rattle.xchacha_core.specs.ChaCha.{block_of, quarter_round}

abbrev pub Rows : Type 0
Rows = List ℕ × List ℕ × List ℕ × List ℕ

-- each row has this many words
abbrev pub HasWidth : ℕ → Rows → Type 0
HasWidth width rows = (length rows.0 ≡ width) × (length rows.1 ≡ width) × (length rows.2 ≡ width) × (length rows.3 ≡ width)

abbrev pub column : Rows → ℕ → ℕ × ℕ × ℕ × ℕ
column rows i = (slice_index rows.0 i, slice_index rows.1 i, slice_index rows.2 i, slice_index rows.3 i)

-- the quarter round on a column
abbrev pub quarter_column : Rows → ℕ → ℕ × ℕ × ℕ × ℕ
quarter_column rows i = quarter_round (slice_index rows.0 i) (slice_index rows.1 i) (slice_index rows.2 i) (slice_index rows.3 i)

-- four words of a row, from the i-th on
abbrev pub four_words : List ℕ → ℕ → List ℕ
four_words row i = slice_index row i ∷ slice_index row (i + 1) ∷ slice_index row (i + 2) ∷ slice_index row (i + 3) ∷ []

-- the state of block b
abbrev pub block_state : Rows → ℕ → List ℕ
block_state rows b = four_words rows.0 (4 * b) ++ four_words rows.1 (4 * b) ++ four_words rows.2 (4 * b) ++ four_words rows.3 (4 * b)

-- a row of this many words, in which each four words of a block are turned to the left by some places
abbrev pub turned : ℕ → ℕ → List ℕ → List ℕ
turned width places row = map (λ i. slice_index row (4 * (i / 4) + (i + places) % 4)) (range_with_len 0 width)

-- four words again and again, up to this many
abbrev pub repeated : ℕ → List ℕ → List ℕ
repeated width row = map (λ i. slice_index row (i % 4)) (range_with_len 0 width)

-- byte i of the blocks, one after another, that begin from a state with this counter and the next ones
abbrev pub byte_of_blocks : List ℕ → ℕ → ℕ → ℕ
byte_of_blocks state counter i = slice_index (block_of (slice_set state 12 (counter + i / 64))) (i % 64)
