-- A double round by quarter rounds on whole rows, of which the diagonals are turned into columns.
use Rattle.std.proofs.Common.{◌≡◌, ℕ, ◌+◌, ◌*◌, ◌/◌, ◌%◌, ◌<◌, ◌≤◌, ◌∙◌, List, [], ◌∷◌, slice_index, suc, ap, refl, arith}
use Rattle.xchacha_core.specs.ChaCha.{column_round, diagonal_round, double_rounds, quarter_round, quarter_round_at}
use Rattle.xchacha_core.specs.Rows.{Rows, block_state, column, quarter_column, turned}
use Rattle.xchacha_core.proofs.Columns.{turned_at}

-- a double round by its eight quarter rounds
double_round_by_quarters : (s0 s1 s2 s3 s4 s5 s6 s7 s8 s9 s10 s11 s12 s13 s14 s15 : ℕ)
    (column0 column1 column2 column3 diagonal0 diagonal1 diagonal2 diagonal3 : ℕ × ℕ × ℕ × ℕ)
    → column0 ≡ quarter_round s0 s4 s8 s12 → column1 ≡ quarter_round s1 s5 s9 s13 → column2 ≡ quarter_round s2 s6 s10 s14 → column3 ≡ quarter_round s3 s7 s11 s15
    → diagonal0 ≡ quarter_round column0.0 column1.1 column2.2 column3.3 → diagonal1 ≡ quarter_round column1.0 column2.1 column3.2 column0.3
    → diagonal2 ≡ quarter_round column2.0 column3.1 column0.2 column1.3 → diagonal3 ≡ quarter_round column3.0 column0.1 column1.2 column2.3
    → diagonal0.0 ∷ diagonal1.0 ∷ diagonal2.0 ∷ diagonal3.0 ∷ diagonal3.1 ∷ diagonal0.1 ∷ diagonal1.1 ∷ diagonal2.1
    ∷ diagonal2.2 ∷ diagonal3.2 ∷ diagonal0.2 ∷ diagonal1.2 ∷ diagonal1.3 ∷ diagonal2.3 ∷ diagonal3.3 ∷ diagonal0.3 ∷ []
    ≡ diagonal_round (column_round (s0 ∷ s1 ∷ s2 ∷ s3 ∷ s4 ∷ s5 ∷ s6 ∷ s7 ∷ s8 ∷ s9 ∷ s10 ∷ s11 ∷ s12 ∷ s13 ∷ s14 ∷ s15 ∷ []))
unfolding column_round diagonal_round quarter_round_at
double_round_by_quarters s0 s1 s2 s3 s4 s5 s6 s7 s8 s9 s10 s11 s12 s13 s14 s15 column0 column1 column2 column3 diagonal0 diagonal1 diagonal2 diagonal3 e0 e1 e2 e3 e4 e5 e6 e7 =
    rw (e7, e6, e5, e4, e3, e2, e1, e0) refl

-- a quarter round on a column of turned rows
diagonal_of : (width : ℕ) (mixed across : Rows) (i j k l : ℕ)
    → ((i : ℕ) → i < width → column across i ≡ quarter_column (turned width 3 mixed.0, mixed.1, turned width 1 mixed.2, turned width 2 mixed.3) i)
    → j < width → slice_index (turned width 3 mixed.0) j ≡ slice_index mixed.0 i → slice_index (turned width 1 mixed.2) j ≡ slice_index mixed.2 k → slice_index (turned width 2 mixed.3) j ≡ slice_index mixed.3 l
    → column across j ≡ quarter_round (slice_index mixed.0 i) (slice_index mixed.1 j) (slice_index mixed.2 k) (slice_index mixed.3 l)
diagonal_of width mixed across i j k l diagonals below first third fourth =
    diagonals j below ∙ (λ p. quarter_round (first p) (slice_index mixed.1 j) (third p) (fourth p))

-- the state of a block: its columns, and then its columns after the turn
pub double_round_state : (width b : ℕ) (rows mixed across : Rows) → 4 * b + 4 ≤ width
    → ((i : ℕ) → i < width → column mixed i ≡ quarter_column rows i)
    → ((i : ℕ) → i < width → column across i ≡ quarter_column (turned width 3 mixed.0, mixed.1, turned width 1 mixed.2, turned width 2 mixed.3) i)
    → block_state (turned width 1 across.0, across.1, turned width 3 across.2, turned width 2 across.3) b ≡ diagonal_round (column_round (block_state rows b))
double_round_state width b rows mixed across fits columns diagonals =
    let i = 4 * b in
    let turn : (places : ℕ) (row : List ℕ) (j k : ℕ) → j < width → 4 * (j / 4) + (j + places) % 4 ≡ k → slice_index (turned width places row) j ≡ slice_index row k = turned_at width in
    let diagonal3 = diagonal_of width mixed across (i + 3) i (i + 1) (i + 2) diagonals (omega arith)
    (turn 3 mixed.0 i (i + 3) (omega arith) (omega arith)) (turn 1 mixed.2 i (i + 1) (omega arith) (omega arith)) (turn 2 mixed.3 i (i + 2) (omega arith) (omega arith)) in
    let diagonal0 = diagonal_of width mixed across i (i + 1) (i + 2) (i + 3) diagonals (omega arith)
    (turn 3 mixed.0 (i + 1) i (omega arith) (omega arith)) (turn 1 mixed.2 (i + 1) (i + 2) (omega arith) (omega arith)) (turn 2 mixed.3 (i + 1) (i + 3) (omega arith) (omega arith)) in
    let diagonal1 = diagonal_of width mixed across (i + 1) (i + 2) (i + 3) i diagonals (omega arith)
    (turn 3 mixed.0 (i + 2) (i + 1) (omega arith) (omega arith)) (turn 1 mixed.2 (i + 2) (i + 3) (omega arith) (omega arith)) (turn 2 mixed.3 (i + 2) i (omega arith) (omega arith)) in
    let diagonal2 = diagonal_of width mixed across (i + 2) (i + 3) i (i + 1) diagonals (omega arith)
    (turn 3 mixed.0 (i + 3) (i + 2) (omega arith) (omega arith)) (turn 1 mixed.2 (i + 3) i (omega arith) (omega arith)) (turn 2 mixed.3 (i + 3) (i + 1) (omega arith) (omega arith)) in
    rw (
      turn 1 across.0 i (i + 1) (omega arith) (omega arith),
      turn 1 across.0 (i + 1) (i + 2) (omega arith) (omega arith),
      turn 1 across.0 (i + 2) (i + 3) (omega arith) (omega arith),
      turn 1 across.0 (i + 3) i (omega arith) (omega arith),
      turn 3 across.2 i (i + 3) (omega arith) (omega arith),
      turn 3 across.2 (i + 1) i (omega arith) (omega arith),
      turn 3 across.2 (i + 2) (i + 1) (omega arith) (omega arith),
      turn 3 across.2 (i + 3) (i + 2) (omega arith) (omega arith),
      turn 2 across.3 i (i + 2) (omega arith) (omega arith),
      turn 2 across.3 (i + 1) (i + 3) (omega arith) (omega arith),
      turn 2 across.3 (i + 2) i (omega arith) (omega arith),
      turn 2 across.3 (i + 3) (i + 1) (omega arith) (omega arith),
    )
    (double_round_by_quarters _ _ _ _ _ _ _ _ _ _ _ _ _ _ _ _ _ _ _ _ _ _ _ _
    (columns i (omega arith)) (columns (i + 1) (omega arith)) (columns (i + 2) (omega arith)) (columns (i + 3) (omega arith))
    diagonal0 diagonal1 diagonal2 diagonal3)

-- one double round more
pub one_more_round : (n : ℕ) (start now next : List ℕ) → now ≡ double_rounds n start → next ≡ diagonal_round (column_round now) → next ≡ double_rounds (n + 1) start
unfolding double_rounds
one_more_round n start now next now_is next_is =
    let more : suc n ≡ n + 1 = omega arith in
    next_is ∙ ap (λ (state : List ℕ). diagonal_round (column_round state)) now_is ∙ ap (λ (m : ℕ). double_rounds m start) more
