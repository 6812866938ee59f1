-- The first line of a text.
use Rattle.std.proofs.Common.{◌≡◌, ℕ, suc, ◌+◌, ◌==◌, Bool, true, false, not, cond, List, [], ◌∷◌, take, drop, refl, ap, ap₂, ◌∙◌, arith}
use Rattle.accounts.specs.Accounts.{line_feed, lines_of, onto_first, place_of}

-- the lines, cut behind this many bytes and one
abbrev Cut : (bytes : List ℕ) (place : ℕ) → Type 0
Cut bytes place = lines_of bytes ≡ take place bytes ∷ lines_of (drop (place + 1) bytes)

abbrev place_by : (ends : Bool) (later : ℕ) → ℕ
place_by ends later = cond (not ends) (1 + later) 0

abbrev lines_by : (ends : Bool) (b : ℕ) (later : List (List ℕ)) → List (List ℕ)
lines_by ends b later = cond ends ([] ∷ later) (onto_first b later)

by_end : (ends : Bool) (b : ℕ) (bytes : List ℕ) (later : ℕ) → (ends ≡ false → onto_first b (lines_of bytes) ≡ take (1 + later) (b ∷ bytes) ∷ lines_of (drop (1 + later + 1) (b ∷ bytes)))
    → lines_by ends b (lines_of bytes) ≡ take (place_by ends later) (b ∷ bytes) ∷ lines_of (drop (place_by ends later + 1) (b ∷ bytes))
by_end true b bytes later goes_on = refl
by_end false b bytes later goes_on = goes_on refl

one_on : (b : ℕ) (bytes : List ℕ) (place : ℕ) → (b ∷ take place bytes) ∷ lines_of (drop (place + 1) bytes) ≡ take (1 + place) (b ∷ bytes) ∷ lines_of (drop (1 + place + 1) (b ∷ bytes))
one_on b bytes place =
    let taken : suc place ≡ 1 + place = omega arith in
    let left : suc (place + 1) ≡ 1 + place + 1 = omega arith in
    ap₂ (λ (k m : ℕ). take k (b ∷ bytes) ∷ lines_of (drop m (b ∷ bytes))) taken left

pub first_line : (b : ℕ) (bytes : List ℕ) → Cut (b ∷ bytes) (place_of line_feed (b ∷ bytes))
first_line b [] = by_end (b == line_feed) b [] 0 (λ _. refl)
first_line b (next ∷ bytes) = by_end (b == line_feed) b (next ∷ bytes) (place_of line_feed (next ∷ bytes)) (λ _. ap (onto_first b) (first_line next bytes) ∙ one_on b (next ∷ bytes) (place_of line_feed (next ∷ bytes)))
