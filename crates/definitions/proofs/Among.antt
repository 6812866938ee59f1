-- The members of a list, lists whose members have ids of their own, and lists in a strict order.
use Rattle.std.proofs.Common.{◌≡◌, ◌≢◌, ℕ, zero, suc, ◌<◌, Bool, true, false, cond, ◌||◌, eqb, List, [], ◌∷◌, ◌++◌, length, get_or, refl, sym, ap, subst, ◌∙◌, arith, inl, inr, ◌⊎◌}
use Rattle.std.specs.List.{filter, list_any, Contains, IsDistinct, AllByRecursion}
use Rattle.std.specs.List.Sorted.{IsPermutation}
use Rattle.std.proofs.lemmas.Bool.{eqb-false}
use Rattle.std.proofs.lemmas.Bool.Decides.{nat_tests}
use Rattle.std.proofs.lemmas.List.Sorted.{Contains-permutation}
use Rattle.std.proofs.lemmas.Map.Keys.{IsDistinct-IsPermutation}
use Rattle.definitions.specs.Journal.{HaveDistinctIds}

-- x is one of the list
abbrev pub Among : {X : Type 0} → X → List X → Type 0
Among x [] = ⊥
Among x (y ∷ ys) = (x ≡ y) ⊎ Among x ys

eqb_flips : (a b : ℕ) → eqb a b ≡ eqb b a
eqb_flips a b = grind (arith, nat_tests)

module _ (X : Type 0) where
  pub Among-from_place : (xs : List X) (x : X) (k : ℕ) → k < length xs → get_or xs k x ≡ x → Among x xs
  Among-from_place [] x k lt e = absurd (omega arith)
  Among-from_place (y ∷ ys) x zero lt e = inl (sym e)
  Among-from_place (y ∷ ys) x (suc k) lt e = inr (Among-from_place ys x k (omega arith) e)

  pub Contains-from_Among : (xs : List X) (x : X) → Among x xs → Contains xs x
  Contains-from_Among [] x m = absurd m
  Contains-from_Among (y ∷ ys) x (inl e) = (zero, omega arith, sym e)
  Contains-from_Among (y ∷ ys) x (inr m) = let c = Contains-from_Among ys x m in (suc c.0, let lt = c.1 in omega arith, c.2)

  pub Among-permutation : (xs ys : List X) (x : X) → IsPermutation xs ys → Among x xs → Among x ys
  Among-permutation xs ys x p m = let c = Contains-permutation xs ys x p (Contains-from_Among xs x m) in Among-from_place ys x c.0 c.1 c.2

  pub Among-append : (xs ys : List X) (x : X) → Among x (xs ++ ys) → Among x xs ⊎ Among x ys
  Among-append [] ys x m = inr m
  Among-append (z ∷ zs) ys x (inl e) = inl (inl e)
  Among-append (z ∷ zs) ys x (inr m) = elim (Among-append zs ys x m) [
    | inl n ↦ inl (inr n)
    | inr n ↦ inr n
  ]

  AllByRecursion-Among : (P : X → Type 0) (xs : List X) (x : X) → AllByRecursion P xs → Among x xs → P x
  AllByRecursion-Among P [] x all m = absurd m
  AllByRecursion-Among P (y ∷ ys) x all (inl e) = subst P (sym e) all.0
  AllByRecursion-Among P (y ∷ ys) x all (inr m) = AllByRecursion-Among P ys x all.1 m

  AllByRecursion-filter : (P : X → Type 0) (passes : X → Bool) (xs : List X) → AllByRecursion P xs → AllByRecursion P (filter passes xs)
  AllByRecursion-filter P passes [] all = tt
  AllByRecursion-filter P passes (y ∷ ys) all = by (passes y) (AllByRecursion-filter P passes ys all.1)
    where
      by : (t : Bool) → AllByRecursion P (filter passes ys) → AllByRecursion P (cond t (y ∷ filter passes ys) (filter passes ys))
      by true more = (all.0, more)
      by false more = more

  AllByRecursion-more : (P : X → Type 0) (xs : List X) (y : X) → AllByRecursion P xs → P y → AllByRecursion P (xs ++ y ∷ [])
  AllByRecursion-more P [] y all here = (here, tt)
  AllByRecursion-more P (x ∷ xs) y all here = (all.0, AllByRecursion-more P xs y all.1 here)

  -- ---- tests of members

  either_false : (a b : Bool) → (a || b) ≡ false → (a ≡ false) × (b ≡ false)
  either_false true b e = absurd cc
  either_false false b e = (refl, e)

  pub none_passes : (passes : X → Bool) (xs : List X) (x : X) → list_any passes xs ≡ false → Among x xs → passes x ≡ false
  none_passes passes [] x e m = absurd m
  none_passes passes (y ∷ ys) x e (inl same) = ap passes same ∙ (either_false (passes y) (list_any passes ys) e).0
  none_passes passes (y ∷ ys) x e (inr m) = none_passes passes ys x (either_false (passes y) (list_any passes ys) e).1 m

  pub some_passes : (passes : X → Bool) (xs : List X) → list_any passes xs ≡ true → (x : X) × Among x xs × (passes x ≡ true)
  some_passes passes [] e = absurd cc
  some_passes passes (y ∷ ys) e = by (passes y) refl (λ f. some_passes passes ys f)
    where
      by : (t : Bool) → passes y ≡ t → (list_any passes ys ≡ true → (x : X) × Among x ys × (passes x ≡ true)) → (x : X) × Among x (y ∷ ys) × (passes x ≡ true)
      by true t more = (y, inl refl, t)
      by false t more = let rest : list_any passes ys ≡ true = rw t at e in let found = more rest in (found.0, inr found.1, found.2)

  pub one_passes : (passes : X → Bool) (xs : List X) (x : X) → Among x xs → passes x ≡ true → list_any passes xs ≡ true
  one_passes passes [] x m e = absurd m
  one_passes passes (y ∷ ys) x (inl same) e = rw (← same, e) refl
  one_passes passes (y ∷ ys) x (inr m) e = by (passes y) (one_passes passes ys x m e)
    where
      by : (t : Bool) → list_any passes ys ≡ true → (t || list_any passes ys) ≡ true
      by true more = refl
      by false more = more

  -- ---- own ids

  module _ (id_of : X → ℕ) where
    pub HaveDistinctIds-none : HaveDistinctIds id_of []
    unfolding IsDistinct
    HaveDistinctIds-none = tt

    pub HaveDistinctIds-more : (xs : List X) (y : X) → HaveDistinctIds id_of xs → list_any (λ x. eqb (id_of x) (id_of y)) xs ≡ false → HaveDistinctIds id_of (xs ++ y ∷ [])
    unfolding IsDistinct
    HaveDistinctIds-more [] y own new = (tt, tt)
    HaveDistinctIds-more (x ∷ xs) y own new =
        let apart = either_false (eqb (id_of x) (id_of y)) (list_any (λ x. eqb (id_of x) (id_of y)) xs) new in
        (AllByRecursion-more (λ z. eqb (id_of x) (id_of z) ≡ false) xs y own.0 apart.0, HaveDistinctIds-more xs y own.1 apart.1)

    pub HaveDistinctIds-filter : (passes : X → Bool) (xs : List X) → HaveDistinctIds id_of xs → HaveDistinctIds id_of (filter passes xs)
    unfolding IsDistinct
    HaveDistinctIds-filter passes [] own = tt
    HaveDistinctIds-filter passes (x ∷ xs) own = by (passes x) (HaveDistinctIds-filter passes xs own.1)
      where
        by : (t : Bool) → HaveDistinctIds id_of (filter passes xs) → HaveDistinctIds id_of (cond t (x ∷ filter passes xs) (filter passes xs))
        by true more = (AllByRecursion-filter (λ y. eqb (id_of x) (id_of y) ≡ false) passes xs own.0, more)
        by false more = more

    flips : (a b : X) → eqb (id_of a) (id_of b) ≡ eqb (id_of b) (id_of a)
    flips a b = eqb_flips (id_of a) (id_of b)

    pub HaveDistinctIds-permutation : (xs ys : List X) → IsPermutation xs ys → HaveDistinctIds id_of xs → HaveDistinctIds id_of ys
    HaveDistinctIds-permutation xs ys p own = IsDistinct-IsPermutation (λ a b. eqb (id_of a) (id_of b)) flips xs ys p own

    -- a member has another id than those behind it
    pub HaveDistinctIds-apart : (x : X) (xs : List X) (y : X) → HaveDistinctIds id_of (x ∷ xs) → Among y xs → id_of x ≢ id_of y
    unfolding IsDistinct
    HaveDistinctIds-apart x xs y own m = eqb-false (id_of x) (id_of y) (AllByRecursion-Among (λ z. eqb (id_of x) (id_of z) ≡ false) xs y own.0 m)

    pub HaveDistinctIds-tail : (x : X) (xs : List X) → HaveDistinctIds id_of (x ∷ xs) → HaveDistinctIds id_of xs
    unfolding IsDistinct
    HaveDistinctIds-tail x xs own = own.1

    -- an id tells the member
    pub HaveDistinctIds-one : (xs : List X) (a b : X) → HaveDistinctIds id_of xs → Among a xs → Among b xs → id_of a ≡ id_of b → a ≡ b
    HaveDistinctIds-one [] a b own m n same = absurd m
    HaveDistinctIds-one (x ∷ xs) a b own (inl e) (inl f) same = e ∙ sym f
    HaveDistinctIds-one (x ∷ xs) a b own (inl e) (inr n) same = absurd (HaveDistinctIds-apart x xs b own n (ap id_of (sym e) ∙ same))
    HaveDistinctIds-one (x ∷ xs) a b own (inr m) (inl f) same = absurd (HaveDistinctIds-apart x xs a own m (ap id_of (sym f) ∙ sym same))
    HaveDistinctIds-one (x ∷ xs) a b own (inr m) (inr n) same = HaveDistinctIds-one xs a b (HaveDistinctIds-tail x xs own) m n same

  -- ---- strict orders

  module _ (Before : X → X → Type 0) where
    -- each stands before every later one
    abbrev pub InOrder : List X → Type 0
    InOrder [] = Unit {0}
    InOrder (x ∷ xs) = ((y : X) → Among y xs → Before x y) × InOrder xs

    -- of members that differ only one order is strict
    pub one_order : ((x y : X) → Before x y → Before y x → ⊥) → (xs ys : List X) → InOrder xs → InOrder ys → ((x : X) → Among x xs → Among x ys) → ((x : X) → Among x ys → Among x xs) → xs ≡ ys
    one_order strict [] [] o p there back = refl
    one_order strict [] (y ∷ ys) o p there back = absurd (back y (inl refl))
    one_order strict (x ∷ xs) [] o p there back = absurd (there x (inl refl))
    one_order strict (x ∷ xs) (y ∷ ys) o p there back =
        let first : x ≡ y = elim (there x (inl refl)) [
          | inl e ↦ e
          | inr later ↦ elim (back y (inl refl)) [
            | inl e ↦ sym e
            | inr other ↦ absurd (strict x y (o.0 y other) (p.0 x later))
          ]
        ] in
        let more : (z : X) → Among z xs → Among z ys = λ z m. elim (there z (inr m)) [
          | inl e ↦ let again : Before x x = subst (λ (w : X). Before x w) (e ∙ sym first) (o.0 z m) in absurd (strict x x again again)
          | inr n ↦ n
        ] in
        let less : (z : X) → Among z ys → Among z xs = λ z m. elim (back z (inr m)) [
          | inl e ↦ let again : Before y y = subst (λ (w : X). Before y w) (e ∙ first) (p.0 z m) in absurd (strict y y again again)
          | inr n ↦ n
        ] in
        ap (λ (w : X). w ∷ xs) first ∙ ap (λ (ws : List X). y ∷ ws) (one_order strict xs ys o.1 p.1 more less)
