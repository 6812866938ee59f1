-- One look at a block tells of all its texts.
use Rattle.std.proofs.Common.{◌≡◌, ℕ, zero, suc, List, [], ◌∷◌, ◌++◌, map, length, ◌⊎◌, inl, inr, Option, Some, Bool, true, false, cond, eqb, refl, sym, ap, ◌∙◌, append_assoc}
use Rattle.std.specs.Prelude.{slice_get}
use Rattle.std.specs.Char.{is_ascii_uppercase, to_ascii_lowercase}
use Rattle.std.specs.List.{list_any, starts_with}
use Rattle.std.proofs.lemmas.Bool.{true≢false}
use Rattle.definitions.specs.Calls.{SearchMode, by_prefix, by_substring}
use Rattle.definitions.specs.Search.{stands_in, matches_by, compared}
use Rattle.definitions.proofs.Search.{stands_in-found, stands_in-at, starts_with-found}
use Rattle.search_query.specs.Answers.{IsTold}

-- what stands in a text that stands in a block stands there
stands_within : (query text block : List ℕ) → stands_in query text ≡ true → stands_in text block ≡ true → stands_in query block ≡ true
stands_within query text block e f =
    let inner = stands_in-found query text e in
    let outer = stands_in-found text block f in
    let is : block ≡ (outer.0 ++ inner.0) ++ (query ++ (inner.1 ++ outer.1)) =
    outer.2 ∙ ap (λ (xs : List ℕ). outer.0 ++ (xs ++ outer.1)) inner.2
    ∙ ap (λ (xs : List ℕ). outer.0 ++ xs) (append_assoc inner.0 (query ++ inner.1) outer.1 ∙ ap (λ (xs : List ℕ). inner.0 ++ xs) (append_assoc query inner.1 outer.1))
    ∙ sym (append_assoc outer.0 inner.0 (query ++ (inner.1 ++ outer.1))) in
    ap (stands_in query) is ∙ stands_in-at (outer.0 ++ inner.0) query (inner.1 ++ outer.1)

begins_within : (query text : List ℕ) → starts_with eqb text query ≡ true → stands_in query text ≡ true
begins_within query text e = let f = starts_with-found query text e in ap (stands_in query) f.1 ∙ stands_in-at [] query f.0

pub none_matches : (mode : SearchMode) (query block command : List ℕ) → list_any is_ascii_uppercase query ≡ false → stands_in query block ≡ false → stands_in (map to_ascii_lowercase command) block ≡ true → matches_by mode query command ≡ false
none_matches mode query block command folds out stands = by mode (matches_by mode query command) refl
  where
    is_folded : compared query command ≡ map to_ascii_lowercase command
    is_folded = ap (λ (b : Bool). cond b command (map to_ascii_lowercase command)) folds

    no : stands_in query (map to_ascii_lowercase command) ≡ true → ⊥
    no e = true≢false (sym (stands_within query (map to_ascii_lowercase command) block e stands) ∙ out)

    by : (m : SearchMode) (t : Bool) → matches_by m query command ≡ t → matches_by m query command ≡ false
    by m false e = e
    by by_prefix true e = absurd (no (begins_within query (map to_ascii_lowercase command) (ap (λ (xs : List ℕ). starts_with eqb xs query) (sym is_folded) ∙ e)))
    by by_substring true e = absurd (no (ap (stands_in query) (sym is_folded) ∙ e))

pub told_none : (texts : List (List ℕ)) (test : List ℕ → Bool) → IsTold texts test []
told_none texts test n o command at named = absurd cc

pub told_more : (texts : List (List ℕ)) (test : List ℕ → Bool) (memo : List (Option Bool)) (b : Bool) → IsTold texts test memo → ((command : List ℕ) → slice_get texts (length memo) ≡ Some command → b ≡ test command) → IsTold texts test (memo ++ Some b ∷ [])
told_more texts test memo b told is n o command at named = by (at_end memo (Some b) n o at)
  where
    at_end : (xs : List (Option Bool)) (x : Option Bool) (k : ℕ) (y : Option Bool) → slice_get (xs ++ x ∷ []) k ≡ Some y → (slice_get xs k ≡ Some y) ⊎ ((k ≡ length xs) × (x ≡ y))
    at_end [] x zero y e = inr (refl, (let same : x ≡ y = cc in same))
    at_end [] x (suc k) y e = absurd cc
    at_end (z ∷ zs) x zero y e = inl e
    at_end (z ∷ zs) x (suc k) y e = elim (at_end zs x k y e) [
      | inl a ↦ inl a
      | inr p ↦ inr (ap suc p.0, p.1)
    ]

    by : (slice_get memo n ≡ Some o) ⊎ ((n ≡ length memo) × (Some b ≡ o)) → o ≡ Some (test command)
    by (inl a) = told n o command a named
    by (inr p) = sym p.1 ∙ ap Some (is command (ap (slice_get texts) (sym p.0) ∙ named))
