-- A search has one answer, since no two ended commands have one id; and what it is for a query to stand in a text.
use Rattle.std.proofs.Common.{◌≡◌, ◌≢◌, ℕ, suc, ◌+◌, Bool, true, false, ◌||◌, ◌&&◌, eqb, ltb, List, [], ◌∷◌, ◌++◌, length, drop, refl, sym, ap, subst, ◌∙◌, append_assoc, append-nil, length-append, arith, inl, inr, ◌⊎◌}
use Rattle.std.specs.List.{starts_with, sum_by}
use Rattle.std.specs.List.Sorted.{IsPermutation, IsSortedBy}
use Rattle.std.specs.Cmp.{IsStrictWeakOrder}
use Rattle.std.proofs.lemmas.Bool.Decides.{nat_tests, Decides-eqb}
use Rattle.std.proofs.lemmas.List.Sorted.{IsPermutation-sym, IsPermutation-trans, sorted_far}
use Rattle.std.proofs.lemmas.List.Sums.{sum_by-append}
use Rattle.std.proofs.lemmas.Slice.Eq.{starts_is}
use Rattle.definitions.specs.Journal.{HistoryRecord, HaveDistinctIds}
use Rattle.definitions.specs.Search.{stands_in, is_shown_before, hit_bytes, FitsPage, IsPage, IsAnswer}
use Rattle.definitions.proofs.Among.{Contains-from_Among, Among-permutation, HaveDistinctIds-permutation, HaveDistinctIds-apart, HaveDistinctIds-tail, InOrder, one_order}

-- ---- the order of hits

module _ (ta ia tb ib : ℕ) where
  shown_one_way : (ltb tb ta || eqb ta tb && ltb ia ib) ≡ true → (ltb ta tb || eqb tb ta && ltb ib ia) ≡ false
  shown_one_way e = grind (arith, nat_tests)

  shown_apart : (ltb tb ta || eqb ta tb && ltb ia ib) ≡ false → (ltb ta tb || eqb tb ta && ltb ib ia) ≡ false → ia ≢ ib → ⊥
  shown_apart e f g = grind (arith, nat_tests)

  shown_chain : (tc ic : ℕ) → (ltb tb ta || eqb ta tb && ltb ia ib) ≡ false → (ltb tc tb || eqb tb tc && ltb ib ic) ≡ false → (ltb tc ta || eqb ta tc && ltb ia ic) ≡ false
  shown_chain tc ic e f = grind (arith, nat_tests)

shown_order : IsStrictWeakOrder is_shown_before
shown_order = record {
  one_way = λ a b e. shown_one_way a.timestamp a.id b.timestamp b.id e;
  chain = λ a b c e f. shown_chain a.timestamp a.id b.timestamp b.id c.timestamp c.id e f;
}

-- not shown later, and another
abbrev pub IsShownFirst : HistoryRecord → HistoryRecord → Type 0
IsShownFirst a b = (is_shown_before b a ≡ false) × (a.id ≢ b.id)

pub IsShownFirst-strict : (a b : HistoryRecord) → IsShownFirst a b → IsShownFirst b a → ⊥
IsShownFirst-strict a b p q = shown_apart a.timestamp a.id b.timestamp b.id q.0 p.0 p.1

IsSortedBy-tail : (h : HistoryRecord) (hits : List HistoryRecord) → IsSortedBy is_shown_before (h ∷ hits) → IsSortedBy is_shown_before hits
IsSortedBy-tail h hits up k d low high =
    let next : suc k + 1 ≡ suc (k + 1) = omega arith in
    let there = up (suc k) d (omega arith) (omega arith) in
    rw next at there

pub in_order : (hits : List HistoryRecord) → IsSortedBy is_shown_before hits → HaveDistinctIds (λ h. h.id) hits → InOrder HistoryRecord IsShownFirst hits
in_order [] up own = tt
in_order (h ∷ hits) up own = (
  λ other m.
      let c = Contains-from_Among HistoryRecord hits other m in
      let far = sorted_far is_shown_before shown_order (h ∷ hits) up 0 (suc c.0) other (omega arith) (let lt = c.1 in omega arith) in
      (subst (λ (x : HistoryRecord). is_shown_before x h ≡ false) c.2 far, HaveDistinctIds-apart HistoryRecord (λ h. h.id) h hits other own m),
  in_order hits (IsSortedBy-tail h hits up) (HaveDistinctIds-tail HistoryRecord (λ h. h.id) h hits own),
)

one_sorted : (all xs ys : List HistoryRecord) → HaveDistinctIds (λ h. h.id) all → IsPermutation all xs → IsPermutation all ys → IsSortedBy is_shown_before xs → IsSortedBy is_shown_before ys → xs ≡ ys
one_sorted all xs ys own p q xs_up ys_up =
    one_order HistoryRecord IsShownFirst IsShownFirst-strict xs ys
    (in_order xs xs_up (HaveDistinctIds-permutation HistoryRecord (λ h. h.id) all xs p own)) (in_order ys ys_up (HaveDistinctIds-permutation HistoryRecord (λ h. h.id) all ys q own))
    (λ h m. Among-permutation HistoryRecord xs ys h (IsPermutation-trans xs all ys (IsPermutation-sym all xs p) q) m)
    (λ h m. Among-permutation HistoryRecord ys xs h (IsPermutation-trans ys all xs (IsPermutation-sym all ys q) p) m)

-- ---- pages

-- of two fronts of a list one begins the other
fronts : {X : Type 0} (xs ys a b : List X) → xs ++ a ≡ ys ++ b → ((m : List X) × (ys ≡ xs ++ m) × (a ≡ m ++ b)) ⊎ ((m : List X) × (xs ≡ ys ++ m) × (b ≡ m ++ a))
fronts [] ys a b e = inl (ys, refl, e)
fronts (x ∷ xs) [] a b e = inr (x ∷ xs, refl, sym e)
fronts {X} (x ∷ xs) (y ∷ ys) a b e =
    let head : x ≡ y = cc in
    let tail : xs ++ a ≡ ys ++ b = cc in
    elim (fronts xs ys a b tail) [
      | inl f ↦ inl (f.0, ap (λ (h : X). h ∷ ys) (sym head) ∙ ap (λ (hs : List X). x ∷ hs) f.1, f.2)
      | inr f ↦ inr (f.0, ap (λ (h : X). h ∷ xs) head ∙ ap (λ (hs : List X). y ∷ hs) f.1, f.2)
    ]

module _ {X : Type 0} (bytes_of : X → ℕ) (limit : ℕ) where
  FitsPage-front : (xs ys : List X) → FitsPage bytes_of limit (xs ++ ys) → FitsPage bytes_of limit xs
  FitsPage-front xs ys fits =
      let l : length (xs ++ ys) ≡ length xs + length ys = length-append xs ys in
      let b : sum_by bytes_of (xs ++ ys) ≡ sum_by bytes_of xs + sum_by bytes_of ys = sum_by-append bytes_of xs ys in
      let n = fits.0 in (
        omega arith,
        elim fits.1 [
          | inl one ↦ inl (omega arith)
          | inr small ↦ inr (omega arith)
        ],
      )

  -- nothing more fits behind a page
  no_more : (all page longer m : List X) (p : IsPage bytes_of limit all page) → FitsPage bytes_of limit longer → longer ≡ page ++ m → (b : List X) → p.rest ≡ m ++ b → longer ≡ page
  no_more all page longer [] p fits e b r = e ∙ append-nil page
  no_more all page longer (next ∷ others) p fits e b r =
      let one : FitsPage bytes_of limit ((page ++ next ∷ []) ++ others) = subst (λ (hs : List X). FitsPage bytes_of limit hs) (e ∙ sym (append_assoc page (next ∷ []) others)) fits in
      absurd (p.most next (others ++ b) r (FitsPage-front (page ++ next ∷ []) others one))

  -- all that is left is a page, where it fits
  pub whole_page : (page : List X) → FitsPage bytes_of limit page → IsPage bytes_of limit page page
  whole_page page fits = record { rest = []; begins = sym (append-nil page); fits = fits; most = λ next others e more. absurd cc }

  pub IsPage-one : (all page other : List X) → IsPage bytes_of limit all page → IsPage bytes_of limit all other → page ≡ other
  IsPage-one all page other p q =
      elim (fronts page other p.rest q.rest (sym p.begins ∙ q.begins)) [
        | inl f ↦ sym (no_more all page other f.0 p q.fits f.1 q.rest f.2)
        | inr f ↦ no_more all other page f.0 q p.fits f.1 p.rest f.2
      ]

-- a search has one answer
pub IsAnswer-one : (offset limit : ℕ) (entries page other : List HistoryRecord) → HaveDistinctIds (λ h. h.id) entries → IsAnswer offset limit entries page → IsAnswer offset limit entries other → page ≡ other
IsAnswer-one offset limit entries page other own p q =
    let same = one_sorted entries p.in_order q.in_order own p.all q.all p.sorted q.sorted in
    IsPage-one hit_bytes limit (drop offset q.in_order) page other (subst (λ (hs : List HistoryRecord). IsPage hit_bytes limit (drop offset hs) page) same p.cut) q.cut

-- ---- where a query stands

begins : (query text : List ℕ) → (starts_with eqb text query ≡ true → text ≡ query ++ drop (length query) text) × ((rest : List ℕ) → text ≡ query ++ rest → starts_with eqb text query ≡ true)
begins query text = starts_is Decides-eqb text query (starts_with eqb text query) refl

pub starts_with-found : (query text : List ℕ) → starts_with eqb text query ≡ true → (rest : List ℕ) × (text ≡ query ++ rest)
starts_with-found query text e = (drop (length query) text, (begins query text).0 e)

pub starts_with-at : (query rest : List ℕ) → starts_with eqb (query ++ rest) query ≡ true
starts_with-at query rest = (begins query (query ++ rest)).1 rest refl

-- the query stands in the text where something may stand before it and behind it
pub stands_in-found : (query text : List ℕ) → stands_in query text ≡ true → (before : List ℕ) × (behind : List ℕ) × (text ≡ before ++ (query ++ behind))
stands_in-found query [] e = let f = starts_with-found query [] e in ([], f.0, f.1)
stands_in-found query (byte ∷ text) e = by (starts_with eqb (byte ∷ text) query) refl (stands_in-found query text)
  where
    by : (t : Bool) → starts_with eqb (byte ∷ text) query ≡ t → (stands_in query text ≡ true → (before : List ℕ) × (behind : List ℕ) × (text ≡ before ++ (query ++ behind))) → (before : List ℕ) × (behind : List ℕ) × (byte ∷ text ≡ before ++ (query ++ behind))
    by true t more = let f = starts_with-found query (byte ∷ text) t in ([], f.0, f.1)
    by false t more = let rest : stands_in query text ≡ true = rw t at e in let f = more rest in (byte ∷ f.0, f.1, ap (λ (xs : List ℕ). byte ∷ xs) f.2)

pub stands_in-at : (before query behind : List ℕ) → stands_in query (before ++ (query ++ behind)) ≡ true
stands_in-at [] query behind = here (query ++ behind) (starts_with-at query behind)
  where
    here : (text : List ℕ) → starts_with eqb text query ≡ true → stands_in query text ≡ true
    here [] e = e
    here (byte ∷ text) e = rw e refl
stands_in-at (byte ∷ before) query behind = by (starts_with eqb (byte ∷ (before ++ (query ++ behind))) query) (stands_in-at before query behind)
  where
    by : (t : Bool) → stands_in query (before ++ (query ++ behind)) ≡ true → (t || stands_in query (before ++ (query ++ behind))) ≡ true
    by true more = refl
    by false more = more
