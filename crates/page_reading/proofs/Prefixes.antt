-- The longest prefix within a weight, taken item by item.
use Rattle.std.proofs.Common.{◌≡◌, ℕ, zero, suc, ◌+◌, ◌-◌, ◌≤◌, ◌<◌, Bool, true, cond, List, [], ◌∷◌, ◌++◌, length, take, drop, Some, refl, sym, ◌∙◌, ap, subst, arith, inl, inr, add-one, length-drop}
use Rattle.std.specs.Prelude.{min, nat_le, slice_get, sum_by}
use Rattle.std.proofs.lemmas.Bool.{le-leb, lt-leb, cases_lt}
use Rattle.std.proofs.lemmas.Option.{slice_get_within, get_or_from_slice_get}
use Rattle.std.proofs.lemmas.List.{take_more, take-take, take_all, length-take}
use Rattle.std.proofs.lemmas.List.Sums.{sum_by-cons, sum_by_push}
use Rattle.definitions.specs.Pages.{longest_within}

module _ {X : Type 0} (weight_of : X → ℕ) where
  -- all of them, where they weigh so little
  pub within_all : (weight : ℕ) (items : List X) → sum_by weight_of items ≤ weight → longest_within weight_of weight items ≡ items
  within_all weight [] h = refl
  within_all weight (x ∷ items) h =
      let sum = sum_by-cons weight_of x items in
      let fits : nat_le (weight_of x) weight ≡ true = le-leb (weight_of x) weight (omega (arith, sum, h)) in
      ap (λ (b : Bool). cond b (x ∷ longest_within weight_of (weight - weight_of x) items) []) fits
      ∙ ap (λ (xs : List X). x ∷ xs) (within_all (weight - weight_of x) items (omega (arith, sum, h)))

  -- the first k, where they do and the next one is too heavy
  pub within_stops : (weight : ℕ) (items : List X) (k : ℕ) → k < length items → sum_by weight_of (take k items) ≤ weight → weight < sum_by weight_of (take (suc k) items) → longest_within weight_of weight items ≡ take k items
  within_stops weight [] k short light heavy = absurd (omega (arith, short))
  within_stops weight (x ∷ items) zero short light heavy =
      let sum = sum_by-cons weight_of x [] in
      ap (λ (b : Bool). cond b (x ∷ longest_within weight_of (weight - weight_of x) items) []) (lt-leb (weight_of x) weight (omega (arith, sum, heavy)))
  within_stops weight (x ∷ items) (suc k) short light heavy =
      let now = sum_by-cons weight_of x (take k items) in
      let next = sum_by-cons weight_of x (take (suc k) items) in
      let fits : nat_le (weight_of x) weight ≡ true = le-leb (weight_of x) weight (omega (arith, now, light)) in
      ap (λ (b : Bool). cond b (x ∷ longest_within weight_of (weight - weight_of x) items) []) fits
      ∙ ap (λ (xs : List X). x ∷ xs) (within_stops (weight - weight_of x) items k (omega (arith, short)) (omega (arith, now, light)) (omega (arith, next, heavy)))

pub slice_get_drop : {X : Type 0} (items : List X) (start k at : ℕ) → at ≡ start + k → slice_get (drop start items) k ≡ slice_get items at
slice_get_drop items zero k at e = let same : k ≡ at = omega (arith, e) in ap (slice_get items) same
slice_get_drop [] (suc start) k at e = refl
slice_get_drop (x ∷ items) (suc start) k zero e = absurd (omega (arith, e))
slice_get_drop (x ∷ items) (suc start) k (suc at) e = slice_get_drop items start k at (omega (arith, e))

pub take_next : {X : Type 0} (items : List X) (start k at : ℕ) (x : X) → at ≡ start + k → slice_get items at ≡ Some x → take (k + 1) (drop start items) ≡ take k (drop start items) ++ x ∷ []
take_next items start k at x e found =
    let here : slice_get (drop start items) k ≡ Some x = slice_get_drop items start k at e ∙ found in
    take_more (drop start items) k x (slice_get_within (drop start items) k x here) ∙ ap (λ y. take k (drop start items) ++ y ∷ []) (get_or_from_slice_get (drop start items) k x x here)

-- a page of the items from `start` on, at most `most` of them
module _ {X : Type 0} (weight_of : X → ℕ) (weight : ℕ) (items : List X) (start most : ℕ) where
  -- where there are no more
  whole : (k : ℕ) → k ≡ min most (length items - start) → take k (drop start items) ≡ take most (drop start items)
  whole k is =
      let count = length-drop start items in
      elim (cases_lt most (length items - start)) [
        | inl fewer ↦ let same : k ≡ most = omega (arith, is, fewer) in ap (λ (n : ℕ). take n (drop start items)) same
        | inr others ↦ take_all k (drop start items) (omega (arith, is, others, count)) ∙ sym (take_all most (drop start items) (omega (arith, others, count)))
      ]

  pub page_ends : (k : ℕ) → k ≡ min most (length items - start) → sum_by weight_of (take k (drop start items)) ≤ weight → take k (drop start items) ≡ longest_within weight_of weight (take most (drop start items))
  page_ends k is light = whole k is ∙ sym (within_all weight_of weight (take most (drop start items)) (subst (λ (xs : List X). sum_by weight_of xs ≤ weight) (whole k is) light))

  -- where the next one is too heavy
  pub page_stops : (k at : ℕ) (x : X) → k < min most (length items - start) → at ≡ start + k → slice_get items at ≡ Some x → sum_by weight_of (take k (drop start items)) ≤ weight → weight < sum_by weight_of (take k (drop start items)) + weight_of x
      → take k (drop start items) ≡ longest_within weight_of weight (take most (drop start items))
  page_stops k at x short is found light heavy =
      let from = drop start items in
      let page = take most (drop start items) in
      let count = length-drop start items in
      let taken = length-take most (drop start items) in
      let here : k < length (take most (drop start items)) = omega (arith, short, count, taken) in
      let before : take k (take most (drop start items)) ≡ take k (drop start items) = take-take k most (drop start items) (omega (arith, short)) in
      let with_next : take (suc k) (take most (drop start items)) ≡ take k (drop start items) ++ x ∷ [] =
      take-take (suc k) most (drop start items) (omega (arith, short)) ∙ ap (λ (n : ℕ). take n (drop start items)) (sym (add-one k)) ∙ take_next items start k at x is found in
      let sum : sum_by weight_of (take (suc k) (take most (drop start items))) ≡ sum_by weight_of (take k (drop start items)) + weight_of x = ap (sum_by weight_of) with_next ∙ sum_by_push weight_of (take k (drop start items)) x in
      sym (within_stops weight_of weight (take most (drop start items)) k here (subst (λ (xs : List X). sum_by weight_of xs ≤ weight) (sym before) light) (omega (arith, sum, heavy)) ∙ before)
