-- The first of several answers, and the next element of a list.
use Rattle.std.proofs.Common.{◌≡◌, ℕ, suc, zero, ◌<◌, Bool, true, false, cond, ◌⊎◌, inl, inr, List, [], ◌∷◌, ◌++◌, length, Option, Some, None, refl, ap, arith}
use Rattle.std.specs.Prelude.{slice_get, option_map}
use Rattle.std.specs.Option.{option_or}

pub option_or-None : {A : Type 0} → (o : Option A) → option_or o None ≡ o
option_or-None None = refl
option_or-None (Some x) = refl

pub option_or_none : {A : Type 0} → (o p : Option A) → option_or o p ≡ None → (o ≡ None) × (p ≡ None)
option_or_none None p h = (refl, h)
option_or_none (Some x) p h = cc

pub cond_none : {A : Type 0} → (b : Bool) (x : A) (o : Option A) → cond b (Some x) o ≡ None → (b ≡ false) × (o ≡ None)
cond_none true x o h = cc
cond_none false x o h = (refl, h)

-- an element of a list with one more is an earlier one or that one
pub slice_get_push : {A : Type 0} → (xs : List A) (y x : A) (k : ℕ) → slice_get (xs ++ y ∷ []) k ≡ Some x → ((k < length xs) × (slice_get xs k ≡ Some x)) ⊎ ((k ≡ length xs) × (y ≡ x))
slice_get_push [] y x zero h = inr (refl, cc)
slice_get_push [] y x (suc k) h = cc
slice_get_push (z ∷ xs) y x zero h = inl (omega arith, h)
slice_get_push (z ∷ xs) y x (suc k) h =
    elim (slice_get_push xs y x k h) [
      | inl old ↦ inl (let within : k < length xs = old.0 in omega arith, old.1)
      | inr new ↦ inr (ap suc new.0, new.1)
    ]

-- an element of the prefix of a list
pub slice_get_prefix : {A : Type 0} → (xs ys : List A) (k : ℕ) → k < length xs → slice_get (xs ++ ys) k ≡ slice_get xs k
slice_get_prefix [] ys k h = absurd (omega arith)
slice_get_prefix (x ∷ xs) ys zero h = refl
slice_get_prefix (x ∷ xs) ys (suc k) h = slice_get_prefix xs ys k (omega arith)

pub option_map_none : {A B : Type 0} → (f : A → B) (o : Option A) → option_map f o ≡ None → o ≡ None
option_map_none f None h = refl
option_map_none f (Some x) h = cc

-- the last element
pub slice_get_last : {A : Type 0} → (xs : List A) (y : A) → slice_get (xs ++ y ∷ []) (length xs) ≡ Some y
slice_get_last [] y = refl
slice_get_last (x ∷ xs) y = slice_get_last xs y
