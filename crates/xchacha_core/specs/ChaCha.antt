-- The ChaCha20 block function (RFC 8439, 2.1 to 2.3). A word is a number below 2 ^ 32, and a state is
-- a list of 16 words, read as four rows of four.
use Rattle.std.specs.Prelude.{ℕ, zero, suc, ◌+◌, ◌*◌, ◌%◌, ◌^◌, List, [], ◌∷◌, bit_xor, slice_index, slice_set, flat_map}
use Rattle.std.specs.Simd.Lanes.{zip2}
use Rattle.std.specs.Int.{w32, rotate_left, from_le_bytes, to_le_bytes}

-- a + b, with the carry out of the word dropped (2.1)
abbrev pub word_sum : ℕ → ℕ → ℕ
word_sum a b = (a + b) % 2 ^ 32

-- d ^= a; d <<<= n (2.1)
abbrev pub xor_rotate : ℕ → ℕ → ℕ → ℕ
xor_rotate d a n = rotate_left w32 (bit_xor d a) n

-- the quarter round on four words (2.1)
unfoldable pub quarter_round : ℕ → ℕ → ℕ → ℕ → ℕ × ℕ × ℕ × ℕ
quarter_round a b c d =
    let a' = word_sum a b in
    let d' = xor_rotate d a' 16 in
    let c' = word_sum c d' in
    let b' = xor_rotate b c' 12 in
    let a'' = word_sum a' b' in
    let d'' = xor_rotate d' a'' 8 in
    let c'' = word_sum c' d'' in
    let b'' = xor_rotate b' c'' 7 in
    (a'', b'', c'', d'')

-- QUARTERROUND(i, j, k, l): the quarter round on the words at four places of a state (2.2)
unfoldable pub quarter_round_at : ℕ → ℕ → ℕ → ℕ → List ℕ → List ℕ
quarter_round_at i j k l state =
    let words = quarter_round (slice_index state i) (slice_index state j) (slice_index state k) (slice_index state l) in
    slice_set (slice_set (slice_set (slice_set state i words.0) j words.1) k words.2) l words.3

-- a quarter round on each column (2.3)
unfoldable pub column_round : List ℕ → List ℕ
column_round state =
    quarter_round_at 3 7 11 15 (quarter_round_at 2 6 10 14 (quarter_round_at 1 5 9 13 (quarter_round_at 0 4 8 12 state)))

-- a quarter round on each diagonal (2.3)
unfoldable pub diagonal_round : List ℕ → List ℕ
diagonal_round state =
    quarter_round_at 3 4 9 14 (quarter_round_at 2 7 8 13 (quarter_round_at 1 6 11 12 (quarter_round_at 0 5 10 15 state)))

-- the state after n double rounds, a column round and a diagonal round each (2.3, inner_block)
unfoldable pub double_rounds : ℕ → List ℕ → List ℕ
double_rounds zero state = state
double_rounds (suc n) state = diagonal_round (column_round (double_rounds n state))

-- the i-th word of some bytes, low byte first
abbrev pub word_at : List ℕ → ℕ → ℕ
word_at bytes i =
    from_le_bytes w32 (slice_index bytes (4 * i) ∷ slice_index bytes (4 * i + 1)
    ∷ slice_index bytes (4 * i + 2) ∷ slice_index bytes (4 * i + 3) ∷ [])

-- four words of some bytes, from the i-th on
abbrev pub words_at : List ℕ → ℕ → List ℕ
words_at bytes i = word_at bytes i ∷ word_at bytes (i + 1) ∷ word_at bytes (i + 2) ∷ word_at bytes (i + 3) ∷ []

-- the bytes of some words, low byte first (2.3, serialize)
abbrev pub serialized : List ℕ → List ℕ
serialized words = flat_map (to_le_bytes w32) words

-- the text `expand 32-byte k` as four words, the eight words of the key, and the last row (2.3)
abbrev pub state_of : List ℕ → List ℕ → List ℕ
state_of key last_row =
    0x61707865 ∷ 0x3320646e ∷ 0x79622d32 ∷ 0x6b206574
    ∷ word_at key 0 ∷ word_at key 1 ∷ word_at key 2 ∷ word_at key 3
    ∷ word_at key 4 ∷ word_at key 5 ∷ word_at key 6 ∷ word_at key 7 ∷ last_row

-- the bytes of the block that begins from a state: the state after ten double rounds, with the state
-- that they began from added word by word (2.3)
unfoldable pub block_of : List ℕ → List ℕ
block_of state = serialized (zip2 word_sum (double_rounds 10 state) state)

-- the block of 64 bytes with this key of 32 bytes, counter of one word and nonce of 12 bytes (2.3)
unfoldable pub chacha20_block : List ℕ → ℕ → List ℕ → List ℕ
chacha20_block key counter nonce =
    block_of (state_of key (counter ∷ word_at nonce 0 ∷ word_at nonce 1 ∷ word_at nonce 2 ∷ []))
