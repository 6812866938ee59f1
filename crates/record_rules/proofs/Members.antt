-- What stands somewhere in a list.
use Rattle.std.proofs.Common.{◌≡◌, ℕ, zero, suc, Bool, true, false, cond, ◌⊎◌, inl, inr, List, [], ◌∷◌, ◌++◌, filter, take, drop, Some, sym, ◌∙◌, ap, subst}
use Rattle.std.specs.Prelude.{find, slice_get}
use Rattle.std.proofs.lemmas.Bool.{cases_Bool}
use Rattle.std.proofs.lemmas.Option.{none-some, same_Some}

-- x stands at some place of the list
abbrev pub Has : {A : Type 0} → List A → A → Type 0
Has [] x = ⊥
Has (y ∷ xs) x = (y ≡ x) ⊎ Has xs x

-- what stands at a place
pub Has-from_place : {A : Type 0} (xs : List A) (k : ℕ) (x : A) → slice_get xs k ≡ Some x → Has xs x
Has-from_place [] k x at = absurd (none-some x at)
Has-from_place (y ∷ xs) zero x at = inl (same_Some y x at)
Has-from_place (y ∷ xs) (suc k) x at = inr (Has-from_place xs k x at)

pub place_of_Has : {A : Type 0} (xs : List A) (x : A) → Has xs x → (k : ℕ) × (slice_get xs k ≡ Some x)
place_of_Has [] x has = absurd has
place_of_Has (y ∷ xs) x (inl here) = (zero, ap Some here)
place_of_Has (y ∷ xs) x (inr later) = let found = place_of_Has xs x later in (suc found.0, found.1)

-- what stands in two lists joined stands in one of them
pub Has-append : {A : Type 0} (xs ys : List A) (x : A) → Has (xs ++ ys) x → Has xs x ⊎ Has ys x
Has-append [] ys x has = inr has
Has-append (y ∷ xs) ys x (inl here) = inl (inl here)
Has-append (y ∷ xs) ys x (inr later) =
    elim (Has-append xs ys x later) [
      | inl left ↦ inl (inr left)
      | inr right ↦ inr right
    ]

here_or_later : (A B C : Type 0) → (B → C) → A ⊎ B → A ⊎ C
here_or_later A B C f (inl a) = inl a
here_or_later A B C f (inr b) = inr (f b)

-- what a filter keeps stood in the list
pub Has-filter : {A : Type 0} (p : A → Bool) (xs : List A) (x : A) → Has (filter p xs) x → Has xs x
Has-filter p [] x has = has
Has-filter p (y ∷ xs) x has =
    let rest = Has-filter p xs x in
    elim (p y) as (λ b. Has (cond b (y ∷ filter p xs) (filter p xs)) x → (y ≡ x) ⊎ Has xs x) [
      | true ↦ λ kept. here_or_later (y ≡ x) (Has (filter p xs) x) (Has xs x) rest kept
      | false ↦ λ later. inr (rest later)
    ] has

-- what stands in the list and passes is kept
pub Has-kept : {A : Type 0} (p : A → Bool) (xs : List A) (x : A) → Has xs x → p x ≡ true → Has (filter p xs) x
Has-kept p [] x has passes = has
Has-kept p (y ∷ xs) x (inl here) passes = subst (λ b. Has (cond b (y ∷ filter p xs) (filter p xs)) x) (sym (ap p here ∙ passes)) (inl here)
Has-kept p (y ∷ xs) x (inr later) passes =
    let rest = Has-kept p xs x later passes in
    elim (p y) as (λ b. Has (cond b (y ∷ filter p xs) (filter p xs)) x) [
      | true ↦ inr rest
      | false ↦ rest
    ]

pub Has-take : {A : Type 0} (n : ℕ) (xs : List A) (x : A) → Has (take n xs) x → Has xs x
Has-take zero xs x has = absurd has
Has-take (suc n) [] x has = has
Has-take (suc n) (y ∷ xs) x (inl here) = inl here
Has-take (suc n) (y ∷ xs) x (inr later) = inr (Has-take n xs x later)

pub Has-drop : {A : Type 0} (n : ℕ) (xs : List A) (x : A) → Has (drop n xs) x → Has xs x
Has-drop zero xs x has = has
Has-drop (suc n) [] x has = has
Has-drop (suc n) (y ∷ xs) x has = inr (Has-drop n xs x has)

-- what is found passes, and stands in the list
pub find_has : {A : Type 0} (p : A → Bool) (xs : List A) (x : A) → find p xs ≡ Some x → (p x ≡ true) × Has xs x
find_has p [] x found = absurd (none-some x found)
find_has p (y ∷ xs) x found =
    elim (cases_Bool (p y)) [
      | inl passes ↦
          let same : y ≡ x = same_Some y x (sym (ap (λ b. cond b (Some y) (find p xs)) passes) ∙ found) in
          (ap p (sym same) ∙ passes, inl same)
      | inr fails ↦
          let later = find_has p xs x (sym (ap (λ b. cond b (Some y) (find p xs)) fails) ∙ found) in
          (later.0, inr later.1)
    ]
