-- Pages and prefixes that are cut item by item, over any item and its weight.
use Rattle.std.proofs.Common.{◌≡◌, ℕ, suc, ◌+◌, ◌-◌, ◌<◌, ◌≤◌, cond, List, [], ◌∷◌, ◌++◌, length, map, take, drop, min, slice_index_or, refl, sym, ap, ap₂, subst, ◌∙◌, arith, inl, inr, ◌⊎◌, length-append}
use Rattle.std.specs.Prelude.{nat_le}
use Rattle.std.specs.List.{sum_by}
use Rattle.std.proofs.lemmas.Bool.{cases_Bool, leb-true, leb-false}
use Rattle.std.proofs.lemmas.List.{take_more, map-append, length-map, take-append-drop, length-take}
use Rattle.std.proofs.lemmas.List.Sums.{sum_by-cons, sum_by_push}
use Rattle.std.proofs.Math.ListN.{drop_of_length-le}
use Rattle.std.proofs.Math.Seq.{drop-cons}
use Rattle.definitions.specs.Limits.{most_shown_bytes}
use Rattle.definitions.specs.Search.{FitsPage, IsPage}
use Rattle.definitions.specs.Pages.{longest_within, IsLongestWithin}

-- ---- pages

module _ {X : Type 0} (bytes_of : X → ℕ) (limit : ℕ) where
  -- the first k items are k
  count_of : (items : List X) (k : ℕ) → k ≤ length items → length (take k items) ≡ k
  count_of items k within = let all : length (take k items) ≡ min k (length items) = length-take k items in omega arith

  sum_more : (items : List X) (k : ℕ) (d : X) → k < length items → sum_by bytes_of (take (k + 1) items) ≡ sum_by bytes_of (take k items) + bytes_of (slice_index_or items k d)
  sum_more items k d below = ap (sum_by bytes_of) (take_more items k d below) ∙ sum_by_push bytes_of (take k items) (slice_index_or items k d)

  -- no items are a page, whatever the limit
  pub page_begins : FitsPage bytes_of limit []
  page_begins = (omega arith, inl (omega arith))

  -- the page has room for one more item
  pub page_goes_on : (items : List X) (k bytes : ℕ) (next : X) → k < length items → next ≡ slice_index_or items k next → bytes ≡ sum_by bytes_of (take k items)
      → k < limit → (k ≡ 0) ⊎ (bytes + bytes_of next ≤ most_shown_bytes) → (bytes + bytes_of next ≡ sum_by bytes_of (take (k + 1) items)) × FitsPage bytes_of limit (take (k + 1) items)
  page_goes_on items k bytes next below is total some room =
      let sum : bytes + bytes_of next ≡ sum_by bytes_of (take (k + 1) items) = ap₂ (λ (a b : ℕ). a + b) total (ap bytes_of is) ∙ sym (sum_more items k next below) in
      let long : length (take (k + 1) items) ≡ k + 1 = count_of items (k + 1) (omega arith) in
      let within : length (take (k + 1) items) ≤ limit = omega (arith, some) in
      elim room [
        | inl first ↦ let single : length (take (k + 1) items) ≤ 1 = omega (arith, first) in (sum, (within, inl single))
        | inr fits ↦ let light : sum_by bytes_of (take (k + 1) items) ≤ most_shown_bytes = omega (arith, fits) in (sum, (within, inr light))
      ]

  -- the next item doesn't fit: there are as many as may be, or they are too heavy with it
  no_room : (page : List X) (next : X) → (limit ≤ length page) ⊎ ((0 < length page) × (most_shown_bytes < sum_by bytes_of page + bytes_of next)) → FitsPage bytes_of limit (page ++ next ∷ []) → ⊥
  no_room page next (inl all) fits =
      let long : length (page ++ next ∷ []) ≡ length page + 1 = length-append page (next ∷ []) in
      let most : length (page ++ next ∷ []) ≤ limit = fits.0 in
      omega arith
  no_room page next (inr full) (within, inl single) =
      let long : length (page ++ next ∷ []) ≡ length page + 1 = length-append page (next ∷ []) in
      omega (arith, full.0)
  no_room page next (inr full) (within, inr light) =
      let total : sum_by bytes_of (page ++ next ∷ []) ≡ sum_by bytes_of page + bytes_of next = sum_by_push bytes_of page next in
      omega (arith, full.1)

  -- a page is as long as may be where the next item doesn't fit
  pub page_stops : (items : List X) (k bytes : ℕ) (next : X) → k < length items → next ≡ slice_index_or items k next → bytes ≡ sum_by bytes_of (take k items)
      → FitsPage bytes_of limit (take k items) → (limit ≤ k) ⊎ ((0 < k) × (most_shown_bytes < bytes + bytes_of next)) → IsPage bytes_of limit items (take k items)
  page_stops items k bytes next below is total fits full =
      let long : length (take k items) ≡ k = count_of items k (omega arith) in
      let no_more : (limit ≤ length (take k items)) ⊎ ((0 < length (take k items)) × (most_shown_bytes < sum_by bytes_of (take k items) + bytes_of next)) =
      elim full [
        | inl all ↦ inl (omega arith)
        | inr past ↦ let some : 0 < k = past.0 in let over : most_shown_bytes < bytes + bytes_of next = past.1 in inr (omega arith, omega arith)
      ] in
      let cell : drop k items ≡ next ∷ drop (suc k) items = drop-cons items k next below ∙ ap (λ (x : X). x ∷ drop (suc k) items) (sym is) in
      record {
        rest = drop k items;
        begins = sym (take-append-drop k items);
        fits = fits;
        most = λ other others at longer.
            let same : next ≡ other = let all : next ∷ drop (suc k) items ≡ other ∷ others = sym cell ∙ at in cc in
            no_room (take k items) next no_more (subst (λ (x : X). FitsPage bytes_of limit (take k items ++ x ∷ [])) (sym same) longer);
      }

  -- all of the items are a page
  pub page_ends : (items : List X) (k : ℕ) → length items ≤ k → FitsPage bytes_of limit (take k items) → IsPage bytes_of limit items (take k items)
  page_ends items k past fits =
      let none : drop k items ≡ [] = drop_of_length-le items {i = k} past in
      record {
        rest = drop k items;
        begins = sym (take-append-drop k items);
        fits = fits;
        most = λ next others at longer. let no : [] ≡ next ∷ others = sym none ∙ at in absurd cc;
      }

-- ---- pages of items that are seen as others

module _ {A X : Type 0} (seen : A → X) (bytes_of : X → ℕ) (limit : ℕ) where
  sum_seen : (items : List A) → sum_by (λ (a : A). bytes_of (seen a)) items ≡ sum_by bytes_of (map seen items)
  sum_seen [] = refl
  sum_seen (a ∷ items) =
      sum_by-cons (λ (a : A). bytes_of (seen a)) a items ∙ ap (λ (n : ℕ). bytes_of (seen a) + n) (sum_seen items) ∙ sym (sum_by-cons bytes_of (seen a) (map seen items))

  -- what fits as items fits as they are seen, and the other way
  pub FitsPage-seen : (items : List A) → FitsPage (λ (a : A). bytes_of (seen a)) limit items → FitsPage bytes_of limit (map seen items)
  FitsPage-seen items fits =
      let few = fits.0 in
      let long = length-map items seen in
      let sum = sum_seen items in (
        omega arith,
        elim fits.1 [
          | inl one ↦ inl (omega arith)
          | inr light ↦ inr (omega arith)
        ],
      )

  pub FitsPage-unseen : (items : List A) → FitsPage bytes_of limit (map seen items) → FitsPage (λ (a : A). bytes_of (seen a)) limit items
  FitsPage-unseen items fits =
      let few = fits.0 in
      let long = length-map items seen in
      let sum = sum_seen items in (
        omega arith,
        elim fits.1 [
          | inl one ↦ inl (omega arith)
          | inr light ↦ inr (omega arith)
        ],
      )

  -- a page of items is a page of them as they are seen
  pub IsPage-seen : (all page : List A) → IsPage (λ (a : A). bytes_of (seen a)) limit all page → IsPage bytes_of limit (map seen all) (map seen page)
  IsPage-seen all page p = record {
    rest = map seen p.rest;
    begins = ap (map seen) p.begins ∙ map-append seen page p.rest;
    fits = FitsPage-seen page p.fits;
    most = none_longer p.rest refl;
  }
    where
      none_longer : (rest : List A) → p.rest ≡ rest → (next : X) (others : List X) → map seen rest ≡ next ∷ others → FitsPage bytes_of limit (map seen page ++ next ∷ []) → ⊥
      none_longer [] is next others at longer = absurd cc
      none_longer (a ∷ rest) is next others at longer =
          let same : seen a ≡ next = cc in
          p.most a rest is
          (FitsPage-unseen (page ++ a ∷ []) (subst (FitsPage bytes_of limit) (ap (λ (x : X). map seen page ++ x ∷ []) (sym same) ∙ sym (map-append seen page (a ∷ []))) longer))

-- ---- prefixes within a weight

module _ {X : Type 0} (weight_of : X → ℕ) where
  pub longest_within-longest : (weight : ℕ) (items : List X) → IsLongestWithin weight_of weight items (longest_within weight_of weight items)
  longest_within-longest weight [] = record { is_prefix = refl; within = omega arith; longest = λ h. absurd (omega arith) }
  longest_within-longest weight (item ∷ items) =
      let rest = longest_within-longest (weight - weight_of item) items in
      let front = longest_within weight_of (weight - weight_of item) items in
      elim (cases_Bool (nat_le (weight_of item) weight)) [
        | inl light ↦ subst (IsLongestWithin weight_of weight (item ∷ items)) (ap (λ b. cond b (item ∷ front) []) (sym light)) (longer (leb-true (weight_of item) weight light) rest)
        | inr heavy ↦ subst (IsLongestWithin weight_of weight (item ∷ items)) (ap (λ b. cond b (item ∷ front) []) (sym heavy)) (record { is_prefix = refl; within = omega arith; longest = λ _. (let above = leb-false (weight_of item) weight heavy in omega arith) })
      ]
    where
      longer : weight_of item ≤ weight → IsLongestWithin weight_of (weight - weight_of item) items (longest_within weight_of (weight - weight_of item) items) → IsLongestWithin weight_of weight (item ∷ items) (item ∷ longest_within weight_of (weight - weight_of item) items)
      longer light rest =
          let front = longest_within weight_of (weight - weight_of item) items in
          let whole = sum_by-cons weight_of item front in
          record {
            is_prefix = ap (λ more. item ∷ more) rest.is_prefix;
            within = (let h = rest.within in omega arith);
            longest = λ below.
                let count : suc (length front) + 1 ≡ suc (length front + 1) = omega arith in
                let beyond : weight - weight_of item < sum_by weight_of (take (length front + 1) items) = rest.longest (omega (arith, below)) in
                let taken = sum_by-cons weight_of item (take (length front + 1) items) in
                subst (λ n. weight < sum_by weight_of (take n (item ∷ items))) (sym count) (omega (arith, beyond, taken, light));
          }
