-- The mixing function G and the compression function F of BLAKE2b (RFC 7693, sections 3.1 and 3.2),
-- as functions on lists of words. A word is a number below 2 ^ 64.
use Rattle.std.specs.Prelude.{ℕ, zero, suc, ◌+◌, ◌*◌, ◌/◌, ◌%◌, ◌^◌, Bool, if◌then◌else◌, List, [], ◌∷◌, ◌++◌, map, bit_xor, slice_index, slice_set, slice_range}
use Rattle.std.specs.Int.{w64, bit_not, rotate_right, from_le_bytes}
use Rattle.blake2b_core.specs.Constants.{initialization_vector, schedule}

-- the sum of two words modulo 2 ^ 64
abbrev pub add64 : ℕ → ℕ → ℕ
add64 x y = (x + y) % 2 ^ 64

-- half of G, with one word of the message and two of the rotation constants (3.1)
abbrev pub half_mix : ℕ → ℕ → ℕ → ℕ → ℕ → ℕ → ℕ → ℕ × ℕ × ℕ × ℕ
half_mix a b c d word first second =
    let a' = add64 (add64 a b) word in
    let d' = rotate_right w64 (bit_xor d a') first in
    let c' = add64 c d' in
    let b' = rotate_right w64 (bit_xor b c') second in
    (a', b', c', d')

-- G on the words a, b, c and d, with the message words x and y (3.1); the rotations are R1 to R4 (2.1)
unfoldable pub mix : ℕ → ℕ → ℕ → ℕ → ℕ → ℕ → ℕ × ℕ × ℕ × ℕ
mix a b c d x y =
    let half = half_mix a b c d x 32 24 in
    half_mix half.0 half.1 half.2 half.3 y 16 63

-- G on the four columns of four rows, with message words for each
abbrev pub mix_columns : List ℕ × List ℕ × List ℕ × List ℕ → List ℕ → List ℕ → List ℕ × List ℕ × List ℕ × List ℕ
mix_columns rows x y =
    let mixed : ℕ → ℕ × ℕ × ℕ × ℕ = λ i.
    mix (slice_index rows.0 i) (slice_index rows.1 i) (slice_index rows.2 i) (slice_index rows.3 i) (slice_index x i) (slice_index y i) in (
      (mixed 0).0 ∷ (mixed 1).0 ∷ (mixed 2).0 ∷ (mixed 3).0 ∷ [],
      (mixed 0).1 ∷ (mixed 1).1 ∷ (mixed 2).1 ∷ (mixed 3).1 ∷ [],
      (mixed 0).2 ∷ (mixed 1).2 ∷ (mixed 2).2 ∷ (mixed 3).2 ∷ [],
      (mixed 0).3 ∷ (mixed 1).3 ∷ (mixed 2).3 ∷ (mixed 3).3 ∷ [],
    )

-- the working vector that has these rows
abbrev pub vector_of : List ℕ × List ℕ × List ℕ × List ℕ → List ℕ
vector_of rows = rows.0 ++ rows.1 ++ rows.2 ++ rows.3

-- G on the words of v at the places a, b, c and d
abbrev pub mix_at : List ℕ → ℕ → ℕ → ℕ → ℕ → ℕ → ℕ → List ℕ
mix_at v a b c d x y =
    let mixed = mix (slice_index v a) (slice_index v b) (slice_index v c) (slice_index v d) x y in
    slice_set (slice_set (slice_set (slice_set v a mixed.0) b mixed.1) c mixed.2) d mixed.3

-- a round on the working vector v, with the message words m and the row s of SIGMA: G on the columns,
-- then on the diagonals (3.2)
unfoldable pub round : List ℕ → List ℕ → List ℕ → List ℕ
round m s v0 =
    let word : ℕ → ℕ = λ i. slice_index m (slice_index s i) in
    let v1 = mix_at v0 0 4 8 12 (word 0) (word 1) in
    let v2 = mix_at v1 1 5 9 13 (word 2) (word 3) in
    let v3 = mix_at v2 2 6 10 14 (word 4) (word 5) in
    let v4 = mix_at v3 3 7 11 15 (word 6) (word 7) in
    let v5 = mix_at v4 0 5 10 15 (word 8) (word 9) in
    let v6 = mix_at v5 1 6 11 12 (word 10) (word 11) in
    let v7 = mix_at v6 2 7 8 13 (word 12) (word 13) in
    mix_at v7 3 4 9 14 (word 14) (word 15)

-- the working vector v after its first r rounds, with the message words m
unfoldable pub rounds : List ℕ → List ℕ → ℕ → List ℕ
rounds m v zero = v
rounds m v (suc r) = round m (schedule r) (rounds m v r)

-- the word of a block at this place, low byte first (2.4)
unfoldable pub word_at : List ℕ → ℕ → ℕ
word_at block i = from_le_bytes w64 (slice_range block (8 * i) (8 * i + 8))

-- the 16 message words of a block
unfoldable pub message_words : List ℕ → List ℕ
message_words block = map (word_at block) (0 ∷ 1 ∷ 2 ∷ 3 ∷ 4 ∷ 5 ∷ 6 ∷ 7 ∷ 8 ∷ 9 ∷ 10 ∷ 11 ∷ 12 ∷ 13 ∷ 14 ∷ 15 ∷ [])

-- the second half of the working vector before the rounds: IV, with the two words of the counter t
-- xored into words 12 and 13, and word 14 inverted for the last block (3.2)
abbrev pub second_half : ℕ → Bool → List ℕ
second_half t last =
    let iv : ℕ → ℕ = slice_index initialization_vector in
    iv 0 ∷ iv 1 ∷ iv 2 ∷ iv 3 ∷ bit_xor (iv 4) (t % 2 ^ 64) ∷ bit_xor (iv 5) (t / 2 ^ 64 % 2 ^ 64)
    ∷ (if last then bit_not w64 (iv 6) else iv 6) ∷ iv 7 ∷ []

-- the working vector before the rounds, whose first half is the state (3.2)
unfoldable pub working_vector : List ℕ → ℕ → Bool → List ℕ
working_vector state t last = state ++ second_half t last

-- the state xored with both halves of the working vector (3.2)
unfoldable pub fold_halves : List ℕ → List ℕ → List ℕ
fold_halves state v =
    map (λ i. bit_xor (bit_xor (slice_index state i) (slice_index v i)) (slice_index v (i + 8)))
    (0 ∷ 1 ∷ 2 ∷ 3 ∷ 4 ∷ 5 ∷ 6 ∷ 7 ∷ [])

-- F: the state after a block of 128 bytes, where t bytes have come with it (3.2). The counter has two
-- words, so t counts modulo 2 ^ 128.
unfoldable pub compress : List ℕ → List ℕ → ℕ → Bool → List ℕ
compress state block t last = fold_halves state (rounds (message_words block) (working_vector state t last) 12)
