-- What a list's bytes, and a clock that goes on by a step, gave.
use Rattle.std.proofs.Common.{◌≡◌, ℕ, suc, ◌≤◌, List, [], ◌∷◌, length, take, Option, Some, None, refl, sym, arith}
use Rattle.at_edge.specs.Coming.{followed, Gives, padded}
use Rattle.at_edge.specs.MemoryForms.{readings_from}

-- what was given of a list is its front
front_of : (bytes items : List ℕ) (rest : ℕ → ℕ) → length items ≤ length bytes → ((i : ℕ) → padded bytes i ≡ followed items rest i) → items ≡ take (length items) bytes
front_of bytes [] rest short same = refl
front_of [] (x ∷ items) rest short same = absurd (omega (arith, short))
front_of (b ∷ bytes) (x ∷ items) rest short same = λ i. sym (same 0) i ∷ front_of bytes items rest (omega (arith, short)) (λ k. same (suc k)) i

pub given_front : (bytes items : List ℕ) (after : Option (ℕ → ℕ)) → length items ≤ length bytes → Gives (Some (padded bytes)) after items → items ≡ take (length items) bytes
given_front bytes items None short gives = absurd gives
given_front bytes items (Some rest) short gives = front_of bytes items rest short gives

-- the first reading is where the clock stood
pub first_reading : (step now reading : ℕ) (after : Option (ℕ → ℕ)) → Gives (Some (readings_from step now)) after (reading ∷ []) → reading ≡ now
first_reading step now reading None gives = absurd gives
first_reading step now reading (Some rest) gives = sym (gives 0)
