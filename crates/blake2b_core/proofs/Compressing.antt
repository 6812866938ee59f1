-- The steps of the compression function over words that the code holds one by one.
use Rattle.std.proofs.Common.{◌≡◌, ℕ, zero, suc, ◌+◌, ◌/◌, ◌%◌, ◌^◌, ◌∙◌, Bool, List, [], ◌∷◌, ◌++◌, length, slice_index, drop, if◌then◌else◌, bit_xor, ap, sym, arith}
use Rattle.std.proofs.lemmas.List.{drop_more, drop_all}
use Rattle.std.specs.Int.{w64, bit_not}
use Rattle.blake2b_core.specs.Constants.{initialization_vector}
use Rattle.blake2b_core.specs.Compression.{mix, round, second_half, vector_of, working_vector}

-- n elements of a list from i on
abbrev pub elements : List ℕ → ℕ → ℕ → List ℕ
elements xs i zero = []
elements xs i (suc n) = slice_index xs i ∷ elements xs (i + 1) n

-- a list is its elements
pub elements_all : (xs : List ℕ) (i n : ℕ) → length xs ≡ i + n → drop i xs ≡ elements xs i n
elements_all xs i zero h = drop_all i xs (omega arith)
elements_all xs i (suc n) h =
    drop_more xs i 0 (omega arith) ∙ ap (λ (rest : List ℕ). slice_index xs i ∷ rest) (elements_all xs (i + 1) n (omega arith))

-- the working vector of four rows, word by word
pub vector_by_words : (a b c d : List ℕ) → length a ≡ 4 → length b ≡ 4 → length c ≡ 4 → length d ≡ 4
    → vector_of (a, b, c, d) ≡ elements a 0 4 ++ elements b 0 4 ++ elements c 0 4 ++ elements d 0 4
vector_by_words a b c d len_a len_b len_c len_d =
    λ k. elements_all a 0 4 len_a k ++ elements_all b 0 4 len_b k ++ elements_all c 0 4 len_c k ++ elements_all d 0 4 len_d k

-- a round by its eight mixes
pub round_by_mixes : (m s a b c d : List ℕ) → length a ≡ 4 → length b ≡ 4 → length c ≡ 4 → length d ≡ 4
    → (column0 column1 column2 column3 diagonal0 diagonal1 diagonal2 diagonal3 : ℕ × ℕ × ℕ × ℕ)
    → column0 ≡ mix (slice_index a 0) (slice_index b 0) (slice_index c 0) (slice_index d 0) (slice_index m (slice_index s 0)) (slice_index m (slice_index s 1))
    → column1 ≡ mix (slice_index a 1) (slice_index b 1) (slice_index c 1) (slice_index d 1) (slice_index m (slice_index s 2)) (slice_index m (slice_index s 3))
    → column2 ≡ mix (slice_index a 2) (slice_index b 2) (slice_index c 2) (slice_index d 2) (slice_index m (slice_index s 4)) (slice_index m (slice_index s 5))
    → column3 ≡ mix (slice_index a 3) (slice_index b 3) (slice_index c 3) (slice_index d 3) (slice_index m (slice_index s 6)) (slice_index m (slice_index s 7))
    → diagonal0 ≡ mix column0.0 column1.1 column2.2 column3.3 (slice_index m (slice_index s 8)) (slice_index m (slice_index s 9))
    → diagonal1 ≡ mix column1.0 column2.1 column3.2 column0.3 (slice_index m (slice_index s 10)) (slice_index m (slice_index s 11))
    → diagonal2 ≡ mix column2.0 column3.1 column0.2 column1.3 (slice_index m (slice_index s 12)) (slice_index m (slice_index s 13))
    → diagonal3 ≡ mix column3.0 column0.1 column1.2 column2.3 (slice_index m (slice_index s 14)) (slice_index m (slice_index s 15))
    → diagonal0.0 ∷ diagonal1.0 ∷ diagonal2.0 ∷ diagonal3.0 ∷ diagonal3.1 ∷ diagonal0.1 ∷ diagonal1.1 ∷ diagonal2.1
    ∷ diagonal2.2 ∷ diagonal3.2 ∷ diagonal0.2 ∷ diagonal1.2 ∷ diagonal1.3 ∷ diagonal2.3 ∷ diagonal3.3 ∷ diagonal0.3 ∷ []
    ≡ round m s (vector_of (a, b, c, d))
unfolding round
round_by_mixes m s a b c d len_a len_b len_c len_d column0 column1 column2 column3 diagonal0 diagonal1 diagonal2 diagonal3 e0 e1 e2 e3 e4 e5 e6 e7 =
    rw (e7, e6, e5, e4, e3, e2, e1, e0) (sym (ap (round m s) (vector_by_words a b c d len_a len_b len_c len_d)))

-- the working vector by its words
pub working_vector_by_words : (state : List ℕ) (t : ℕ) (last : Bool) (high inverted : ℕ) → length state ≡ 8 → high ≡ t / 2 ^ 64 % 2 ^ 64
    → inverted ≡ (if last then bit_not w64 (slice_index initialization_vector 6) else slice_index initialization_vector 6)
    → elements state 0 8 ++ slice_index initialization_vector 0 ∷ slice_index initialization_vector 1 ∷ slice_index initialization_vector 2
    ∷ slice_index initialization_vector 3 ∷ bit_xor (slice_index initialization_vector 4) (t % 2 ^ 64)
    ∷ bit_xor (slice_index initialization_vector 5) high ∷ inverted ∷ slice_index initialization_vector 7 ∷ [] ≡ working_vector state t last
unfolding working_vector
working_vector_by_words state t last high inverted len high_is inverted_is =
    rw (high_is, inverted_is) (ap (λ (front : List ℕ). front ++ second_half t last) (sym (elements_all state 0 8 len)))
