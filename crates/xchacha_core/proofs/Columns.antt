-- Rows of words, lane by lane: what the quarter round gives in each column, and what a turned row has.
use Rattle.std.proofs.Common.{◌≡◌, ℕ, zero, suc, ◌+◌, ◌-◌, ◌*◌, ◌/◌, ◌%◌, ◌^◌, ◌<◌, ◌∙◌, List, [], ◌∷◌, map, replicate, slice_index, bit_or, bit_xor, ap, refl, arith}
use Rattle.std.specs.List.{range_with_len}
use Rattle.std.specs.Simd.Lanes.{zip2}
use Rattle.xchacha_core.specs.ChaCha.{quarter_round, word_sum}
use Rattle.xchacha_core.specs.Rows.{HasWidth, Rows, column, quarter_column, turned}

-- each word of a row turned to the left, by two shifts
abbrev pub shifted : ℕ → ℕ → List ℕ → List ℕ
shifted width by row =
    zip2 bit_or (zip2 (λ n k. n * 2 ^ k % 2 ^ 32) row (replicate width by)) (zip2 (λ n k. n / 2 ^ k) row (replicate width (32 - by)))

-- the quarter round on whole rows
abbrev pub quarter_rows : ℕ → Rows → Rows
quarter_rows width rows =
    let a' = zip2 word_sum rows.0 rows.1 in
    let d' = shifted width 16 (zip2 bit_xor rows.3 a') in
    let c' = zip2 word_sum rows.2 d' in
    let b' = shifted width 12 (zip2 bit_xor rows.1 c') in
    let a'' = zip2 word_sum a' b' in
    let d'' = shifted width 8 (zip2 bit_xor d' a'') in
    let c'' = zip2 word_sum c' d'' in
    let b'' = shifted width 7 (zip2 bit_xor b' c'') in
    (a'', b'', c'', d'')

pub quarter_rows_wide : (width : ℕ) (a b c d : List ℕ) → HasWidth width (a, b, c, d) → HasWidth width (quarter_rows width (a, b, c, d))
quarter_rows_wide zero [] [] [] [] wide = (refl, refl, refl, refl)
quarter_rows_wide (suc width) (a ∷ xs) (b ∷ ys) (c ∷ zs) (d ∷ ws) wide =
    let rest = quarter_rows_wide width xs ys zs ws (omega arith, omega arith, omega arith, omega arith) in
    (ap suc rest.0, ap suc rest.1, ap suc rest.2, ap suc rest.3)
quarter_rows_wide zero (a ∷ xs) b c d wide = absurd (omega arith)
quarter_rows_wide zero [] (b ∷ ys) c d wide = absurd (omega arith)
quarter_rows_wide zero [] [] (c ∷ zs) d wide = absurd (omega arith)
quarter_rows_wide zero [] [] [] (d ∷ ws) wide = absurd (omega arith)
quarter_rows_wide (suc width) [] b c d wide = absurd (omega arith)
quarter_rows_wide (suc width) (a ∷ xs) [] c d wide = absurd (omega arith)
quarter_rows_wide (suc width) (a ∷ xs) (b ∷ ys) [] d wide = absurd (omega arith)
quarter_rows_wide (suc width) (a ∷ xs) (b ∷ ys) (c ∷ zs) [] wide = absurd (omega arith)

pub quarter_rows_column : (width : ℕ) (a b c d : List ℕ) → HasWidth width (a, b, c, d) → (i : ℕ) → i < width
    → column (quarter_rows width (a, b, c, d)) i ≡ quarter_column (a, b, c, d) i
unfolding quarter_round
quarter_rows_column zero a b c d wide i below = elim below [ ]
quarter_rows_column (suc width) [] b c d wide i below = absurd (omega arith)
quarter_rows_column (suc width) (a ∷ xs) [] c d wide i below = absurd (omega arith)
quarter_rows_column (suc width) (a ∷ xs) (b ∷ ys) [] d wide i below = absurd (omega arith)
quarter_rows_column (suc width) (a ∷ xs) (b ∷ ys) (c ∷ zs) [] wide i below = absurd (omega arith)
quarter_rows_column (suc width) (a ∷ xs) (b ∷ ys) (c ∷ zs) (d ∷ ws) wide zero below = refl
quarter_rows_column (suc width) (a ∷ xs) (b ∷ ys) (c ∷ zs) (d ∷ ws) wide (suc i) below =
    quarter_rows_column width xs ys zs ws (omega arith, omega arith, omega arith, omega arith) i (omega arith)

-- an element of a list that is made place by place
slice_index-map : (f : ℕ → ℕ) (from width i : ℕ) → i < width → slice_index (map f (range_with_len from width)) i ≡ f (from + i)
slice_index-map f from zero i below = elim below [ ]
slice_index-map f from (suc width) zero below = ap f (omega arith)
slice_index-map f from (suc width) (suc i) below = slice_index-map f (from + 1) width i (omega arith) ∙ ap f (omega arith)

-- a word of a turned row
pub turned_at : (width places : ℕ) (row : List ℕ) (i k : ℕ) → i < width → 4 * (i / 4) + (i + places) % 4 ≡ k
    → slice_index (turned width places row) i ≡ slice_index row k
turned_at width places row i k below place =
    slice_index-map (λ j. slice_index row (4 * (j / 4) + (j + places) % 4)) 0 width i below
    ∙ ap (λ (j : ℕ). slice_index row j) (omega (arith, place))
