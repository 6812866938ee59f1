-- Texts that have numbers keep them as others get theirs.
use Rattle.std.proofs.Common.{◌≡◌, ℕ, zero, suc, List, [], ◌∷◌, ◌++◌, map, Option, Some, None, Bool, true, false, refl, sym, ap, subst, ◌∙◌}
use Rattle.std.specs.Prelude.{slice_get, Result, Ok, Err, OnOk, OnErr, MatchOption, if◌then◌else◌, nat_eq, cond, ◌||◌}
use Rattle.std.specs.List.{list_any, find}
use Rattle.std.specs.Cmp.Lexicographic.{pointwise, same_text}
use Rattle.std.specs.Option.{option_map}
use Rattle.std.proofs.lemmas.Option.{slice_get-map}
use Rattle.indexmap.specs.IndexSet.{insert_key}
use Rattle.history_view.specs.Texts.{KeepsTexts, AreDistinct, IsNumberOf}
use Rattle.std.specs.List.{IsDistinct}
use Rattle.std.proofs.Common.{arith, get_or, ltb, ◌<◌}
use Rattle.std.proofs.lemmas.Bool.{true≢false}
use Rattle.std.proofs.lemmas.Bool.Decides.{nat_tests}
use Rattle.std.proofs.lemmas.Cmp.{nat_list_eq_equiv}
use Rattle.std.proofs.lemmas.Map.Keys.{apart_from_distinct}
use Rattle.std.proofs.lemmas.Option.{slice_get_within, get_or_from_slice_get}

pub keeps_itself : (texts : List (List ℕ)) → KeepsTexts texts texts
keeps_itself texts n text at = at

pub keeps_then : (texts more most : List (List ℕ)) → KeepsTexts texts more → KeepsTexts more most → KeepsTexts texts most
keeps_then texts more most h k n text at = k n text (h n text at)

module _ {V : Type 0} (items : V → List ℕ) (eq : V → V → Bool) where
  before : (xs more : List V) (n : ℕ) (text : List ℕ) → option_map items (slice_get xs n) ≡ Some text → option_map items (slice_get (xs ++ more) n) ≡ Some text
  before [] more n text at = absurd cc
  before (x ∷ xs) more zero text at = at
  before (x ∷ xs) more (suc n) text at = before xs more n text at

  keeps_more : (xs more : List V) → KeepsTexts (map items xs) (map items (xs ++ more))
  keeps_more xs more n text at = slice_get-map items (xs ++ more) n ∙ before xs more n text (sym (slice_get-map items xs n) ∙ at)

  keeps_put : (xs : List V) (x : V) (t : Bool) → KeepsTexts (map items xs) (map items (if t then xs else xs ++ x ∷ []))
  keeps_put xs x true = keeps_itself (map items xs)
  keeps_put xs x false = keeps_more xs (x ∷ [])

  pub put_keeps : {A E : Type 0} (r : Result A E) (old new : List V) (x : V) → OnOk r (new ≡ insert_key eq old x) → OnErr r (new ≡ old) → KeepsTexts (map items old) (map items new)
  put_keeps (Ok a) old new x ok err = subst (λ (xs : List V). KeepsTexts (map items old) (map items xs)) (sym ok) (keeps_put old x (list_any (eq x) old))
  put_keeps (Err e) old new x ok err = subst (λ (xs : List V). KeepsTexts (map items old) (map items xs)) (sym err) (keeps_itself (map items old))

  pub put_names : (xs : List V) (n : ℕ) (text : List ℕ) (k : V) → slice_get xs n ≡ Some k → pointwise nat_eq text (items k) ≡ true → slice_get (map items xs) n ≡ Some text
  put_names xs n text k at same = slice_get-map items xs n ∙ ap (option_map items) at ∙ ap Some (sym (same_text text (items k) (sym same)))

-- ---- each text once

module _ {V : Type 0} (items : V → List ℕ) where
  abbrev pub same_items : V → V → Bool
  same_items x y = pointwise nat_eq (items x) (items y)

  found : (o : Option V) (text : List ℕ) → option_map items o ≡ Some text → (k : V) × (o ≡ Some k) × (items k ≡ text)
  found None text e = absurd cc
  found (Some k) text e = (k, refl, (let is : items k ≡ text = cc in is))

  not_below : (ks : List V) → IsDistinct same_items ks → (m n : ℕ) (text : List ℕ) → slice_get (map items ks) m ≡ Some text → slice_get (map items ks) n ≡ Some text → m < n → ⊥
  not_below ks distinct m n text at there below =
      let one = found (slice_get ks m) text (sym (slice_get-map items ks m) ∙ at) in
      let two = found (slice_get ks n) text (sym (slice_get-map items ks n) ∙ there) in
      let apart = apart_from_distinct same_items ks m n one.0 distinct below (slice_get_within ks n two.0 two.1) in
      let left : get_or ks m one.0 ≡ one.0 = get_or_from_slice_get ks m one.0 one.0 one.1 in
      let right : get_or ks n one.0 ≡ two.0 = get_or_from_slice_get ks n two.0 one.0 two.1 in
      let same : same_items (get_or ks m one.0) (get_or ks n one.0) ≡ true =
      ap (λ (x : V). same_items x (get_or ks n one.0)) left ∙ ap (same_items one.0) right ∙ ap (pointwise nat_eq (items one.0)) (two.2 ∙ sym one.2) ∙ nat_list_eq_equiv.refl (items one.0) in
      true≢false (sym same ∙ apart)

  pub texts_distinct : (ks : List V) → IsDistinct same_items ks → AreDistinct (map items ks)
  texts_distinct ks distinct m n text at there = by (ltb m n) (ltb n m) refl refl
    where
      by : (s t : Bool) → ltb m n ≡ s → ltb n m ≡ t → m ≡ n
      by true t e f = absurd (not_below ks distinct m n text at there (grind (arith, nat_tests)))
      by false true e f = absurd (not_below ks distinct n m text there at (grind (arith, nat_tests)))
      by false false e f = grind (arith, nat_tests)

-- ---- a text that is looked for

passes_found : {V : Type 0} (p : V → Bool) (xs : List V) (k : V) → Some k ≡ find p xs → p k ≡ true
passes_found p [] k e = absurd cc
passes_found {V} p (x ∷ xs) k e = by (p x) refl e (λ f. passes_found p xs k f)
  where
    by : (t : Bool) → p x ≡ t → Some k ≡ cond t (Some x) (find p xs) → (Some k ≡ find p xs → p k ≡ true) → p k ≡ true
    by true t here more = (let same : k ≡ x = cc in ap p same ∙ t)
    by false t here more = more here

any_at : {V : Type 0} (p : V → Bool) (xs : List V) (n : ℕ) (k : V) → slice_get xs n ≡ Some k → p k ≡ true → list_any p xs ≡ true
any_at p [] n k at passes = absurd cc
any_at p (x ∷ xs) zero k at passes = let same : x ≡ k = cc in ap (λ (b : Bool). b || list_any p xs) (ap p same ∙ passes)
any_at p (x ∷ xs) (suc n) k at passes = by (p x) (any_at p xs n k at passes)
  where
    by : (t : Bool) → list_any p xs ≡ true → (t || list_any p xs) ≡ true
    by true more = refl
    by false more = more

module _ {V : Type 0} (items : V → List ℕ) where
  pub there : (ks : List V) (text : List ℕ) (n : ℕ) (k : V) → slice_get ks n ≡ Some k → Some k ≡ find (λ (x : V). pointwise nat_eq text (items x)) ks → slice_get (map items ks) n ≡ Some text
  there ks text n k at is = slice_get-map items ks n ∙ ap (option_map items) at ∙ ap Some (sym (same_text text (items k) (sym (passes_found (λ (x : V). pointwise nat_eq text (items x)) ks k is))))

  pub not_there : (ks : List V) (text : List ℕ) → false ≡ list_any (λ (x : V). pointwise nat_eq text (items x)) ks → (n : ℕ) → slice_get (map items ks) n ≡ Some text → ⊥
  not_there ks text none n at =
      let k = found items (slice_get ks n) text (sym (slice_get-map items ks n) ∙ at) in
      let same : pointwise nat_eq text (items k.0) ≡ true = ap (pointwise nat_eq text) k.2 ∙ nat_list_eq_equiv.refl text in
      true≢false (sym (any_at (λ (x : V). pointwise nat_eq text (items x)) ks n k.0 k.1 same) ∙ sym none)

pub number_is : (texts : List (List ℕ)) (text : List ℕ) (o : Option ℕ) → AreDistinct texts → MatchOption o ((n : ℕ) → slice_get texts n ≡ Some text → ⊥) (λ n. slice_get texts n ≡ Some text) → IsNumberOf texts text o
number_is texts text None distinct is = is
number_is texts text (Some n) distinct is = (is, λ m at. distinct m n text at is)
