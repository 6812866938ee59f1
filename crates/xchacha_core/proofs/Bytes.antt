-- The bytes of rows of words.
use Rattle.std.proofs.Common.{◌≡◌, ℕ, suc, ◌+◌, ◌*◌, ◌/◌, ◌%◌, ◌^◌, ◌<◌, ◌∙◌, List, [], ◌∷◌, length, slice_index, get_or, bit_xor, ap, refl, sym, arith}
use Rattle.std.proofs.lemmas.Simd.{get_or-chunk, get_or_narrower}
use Rattle.std.specs.Simd.Lanes.{Each1, chunk, digits_l, number_l, zip2}
use Rattle.xchacha_core.specs.ChaCha.{serialized}
use Rattle.xchacha_core.specs.Rows.{HasWidth, Rows, block_state, four_words}
use Rattle.xchacha_core.specs.Stream.{xored}
use Rattle.xchacha_core.proofs.StreamLaws.{xored-same}

-- a row is its four words
pub row_words : (row : List ℕ) → length row ≡ 4 → row ≡ four_words row 0
row_words [] wide = absurd (omega arith)
row_words (a ∷ []) wide = absurd (omega arith)
row_words (a ∷ b ∷ []) wide = absurd (omega arith)
row_words (a ∷ b ∷ c ∷ []) wide = absurd (omega arith)
row_words (a ∷ b ∷ c ∷ d ∷ []) wide = refl
row_words (a ∷ b ∷ c ∷ d ∷ e ∷ row) wide = absurd (omega arith)

-- the bytes of four words, read in lanes of one byte
pub row_bytes : (row : List ℕ) → length row ≡ 4 → Each1 (λ x. x < 2 ^ 32) row → digits_l 256 16 (number_l (2 ^ 32) row) ≡ serialized row
row_bytes row wide small =
    let bytes = digits_l 256 16 (number_l (2 ^ 32) row) in
    let part : (j i : ℕ) → i < 4 → 4 * j + i < 16 → get_or bytes (4 * j + i) 0 ≡ get_or row j 0 / 256 ^ i % 256 =
    λ j i below within. get_or_narrower (2 ^ 32) 4 256 16 row j i refl small below within in
    let low : (n : ℕ) → n / 256 ^ 0 % 256 ≡ n % 256 = λ n. ap (λ (m : ℕ). m % 256) (omega arith) in
    let w0 = part 0 0 (omega arith) (omega arith) ∙ low (get_or row 0 0) in
    let w1 = part 1 0 (omega arith) (omega arith) ∙ low (get_or row 1 0) in
    let w2 = part 2 0 (omega arith) (omega arith) ∙ low (get_or row 2 0) in
    let w3 = part 3 0 (omega arith) (omega arith) ∙ low (get_or row 3 0) in
    let p01 = part 0 1 (omega arith) (omega arith) in
    let p02 = part 0 2 (omega arith) (omega arith) in
    let p03 = part 0 3 (omega arith) (omega arith) in
    let p11 = part 1 1 (omega arith) (omega arith) in
    let p12 = part 1 2 (omega arith) (omega arith) in
    let p13 = part 1 3 (omega arith) (omega arith) in
    let p21 = part 2 1 (omega arith) (omega arith) in
    let p22 = part 2 2 (omega arith) (omega arith) in
    let p23 = part 2 3 (omega arith) (omega arith) in
    let p31 = part 3 1 (omega arith) (omega arith) in
    let p32 = part 3 2 (omega arith) (omega arith) in
    let p33 = part 3 3 (omega arith) (omega arith) in
    let all : bytes ≡ serialized (four_words row 0) =
    λ k. w0 k ∷ p01 k ∷ p02 k ∷ p03 k ∷ w1 k ∷ p11 k ∷ p12 k ∷ p13 k ∷ w2 k ∷ p21 k ∷ p22 k ∷ p23 k ∷ w3 k ∷ p31 k ∷ p32 k ∷ p33 k ∷ [] in
    all ∙ ap serialized (sym (row_words row wide))

-- two lists of bytes xored place by place
pub xored_is_zip2 : (bytes text : List ℕ) → length text ≡ length bytes → xored (slice_index bytes) 0 text ≡ zip2 bit_xor text bytes
unfolding xored
xored_is_zip2 [] [] same = refl
xored_is_zip2 (byte ∷ bytes) (first ∷ text) same =
    ap (λ (rest : List ℕ). bit_xor first byte ∷ rest)
    (xored-same (slice_index (byte ∷ bytes)) (slice_index bytes) 1 0 text (λ k below. let suc_k : 1 + k ≡ suc k = omega arith in let same_k : 0 + k ≡ k = omega arith in rw (suc_k, same_k) refl) ∙ xored_is_zip2 bytes text (omega arith))
xored_is_zip2 [] (first ∷ text) same = absurd (omega arith)
xored_is_zip2 (byte ∷ bytes) [] same = absurd (omega arith)

-- the bytes of a row stand at its place in the bytes of the state
pub bytes_of_row : (rows : Rows) → HasWidth 4 rows
    → ((j : ℕ) → j < 16 → slice_index (serialized rows.0) j ≡ slice_index (serialized (block_state rows 0)) (0 + j))
    × ((j : ℕ) → j < 16 → slice_index (serialized rows.1) j ≡ slice_index (serialized (block_state rows 0)) (16 + j))
    × ((j : ℕ) → j < 16 → slice_index (serialized rows.2) j ≡ slice_index (serialized (block_state rows 0)) (32 + j))
    × ((j : ℕ) → j < 16 → slice_index (serialized rows.3) j ≡ slice_index (serialized (block_state rows 0)) (48 + j))
bytes_of_row rows wide =
    let all = serialized (block_state rows 0) in
    let part : (row : List ℕ) (r j : ℕ) → length row ≡ 4 → j < 16 → chunk (16 * r) 16 all ≡ serialized (four_words row 0) → slice_index (serialized row) j ≡ slice_index all (16 * r + j) =
    λ row r j len below here. ap (λ (words : List ℕ). slice_index (serialized words) j) (row_words row len) ∙ ap (λ (bytes : List ℕ). slice_index bytes j) (sym here) ∙ get_or-chunk (16 * r) 16 all j 0 below in (
      λ j below. part rows.0 0 j (omega arith) below refl,
      λ j below. part rows.1 1 j (omega arith) below refl,
      λ j below. part rows.2 2 j (omega arith) below refl,
      λ j below. part rows.3 3 j (omega arith) below refl,
    )

pub length-serialized : (words : List ℕ) → length (serialized words) ≡ 4 * length words
length-serialized [] = refl
length-serialized (word ∷ words) = omega (arith, length-serialized words)
