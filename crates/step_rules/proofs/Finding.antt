-- What is found in a list, and what holds of all of a list.
use Rattle.std.proofs.Common.{◌≡◌, ℕ, zero, suc, Bool, true, false, ◌||◌, cond, inl, inr, List, [], ◌∷◌, Some, sym, ◌∙◌, ap, subst, arith}
use Rattle.std.specs.Prelude.{find, slice_get, All}
use Rattle.std.specs.List.{list_any}
use Rattle.std.proofs.lemmas.Bool.{cases_Bool, true≢false}
use Rattle.std.proofs.lemmas.Option.{none-some, same_Some}
use Rattle.record_rules.proofs.Members.{Has}

-- where one is found, some one passes
pub some_passes : {A : Type 0} (p : A → Bool) (xs : List A) (x : A) → find p xs ≡ Some x → list_any p xs ≡ true
some_passes p [] x found = absurd (none-some x found)
some_passes p (y ∷ xs) x found =
    elim (cases_Bool (p y)) [
      | inl passes ↦ ap (λ b. b || list_any p xs) passes
      | inr fails ↦ ap (λ b. b || list_any p xs) fails ∙ some_passes p xs x (sym (ap (λ b. cond b (Some y) (find p xs)) fails) ∙ found)
    ]

-- where none passes, this one doesn't
pub none_passes : {A : Type 0} (p : A → Bool) (xs : List A) (k : ℕ) (x : A) → list_any p xs ≡ false → slice_get xs k ≡ Some x → p x ≡ false
none_passes p [] k x none at = absurd (none-some x at)
none_passes p (y ∷ xs) zero x none at =
    elim (cases_Bool (p y)) [
      | inl passes ↦ absurd (true≢false (sym (ap (λ b. b || list_any p xs) passes) ∙ none))
      | inr fails ↦ ap p (sym (same_Some y x at)) ∙ fails
    ]
none_passes p (y ∷ xs) (suc k) x none at =
    elim (cases_Bool (p y)) [
      | inl passes ↦ absurd (true≢false (sym (ap (λ b. b || list_any p xs) passes) ∙ none))
      | inr fails ↦ none_passes p xs k x (sym (ap (λ b. b || list_any p xs) fails) ∙ none) at
    ]

-- what holds of all holds of each
pub of_each : {A : Type 0} (P : A → Type 0) (xs : List A) (x : A) → All P xs → Has xs x → P x
of_each P [] x all has = absurd has
of_each P (y ∷ xs) x all (inl here) = subst P here (all 0 y (omega arith))
of_each P (y ∷ xs) x all (inr later) = of_each P xs x (λ k d below. all (suc k) d (omega arith)) later
