-- A search has one answer.
use Rattle.std.proofs.Common.{◌≡◌, ℕ, Bool, true, false, cond, List, [], ◌∷◌, drop, refl, sym, ap, subst, ◌∙◌, inl, inr}
use Rattle.std.specs.Prelude.{◌↔◌}
use Rattle.std.specs.List.{Contains, filter}
use Rattle.std.specs.List.Sorted.{IsPermutation}
use Rattle.std.proofs.lemmas.List.Sorted.{IsPermutation-sym}
use Rattle.definitions.specs.Journal.{HistoryRecord}
use Rattle.definitions.specs.Calls.{SearchMode, by_prefix, by_substring}
use Rattle.definitions.specs.Search.{compared, matches_by, hit_bytes, IsPage, IsAnswer}
use Rattle.definitions.proofs.Among.{Among, Among-from_place, Contains-from_Among, Among-permutation, HaveDistinctIds-filter, HaveDistinctIds-permutation, one_order}
use Rattle.definitions.proofs.Search.{IsShownFirst, IsShownFirst-strict, in_order, IsPage-one, starts_with-at, stands_in-at}
use Rattle.record_rules.proofs.Members.{Has, Has-filter, Has-kept}
use Rattle.view_rules.specs.Changes.{Change}
use Rattle.view_rules.specs.Answers.{of_all, ScopedQuery, is_found, firsts, IsScopedAnswer, SearchAnswer}
use Rattle.view_rules.proofs.Records.{Has-from_Contains, Contains-from_Has}

-- what a filter keeps passes
passes_kept : (passes : HistoryRecord → Bool) (entries : List HistoryRecord) (h : HistoryRecord) → Has (filter passes entries) h → passes h ≡ true
passes_kept passes [] h has = absurd has
passes_kept passes (k ∷ entries) h has = by (passes k) refl (λ more. passes_kept passes entries h more) has
  where
    by : (t : Bool) → passes k ≡ t → (Has (filter passes entries) h → passes h ≡ true) → Has (cond t (k ∷ filter passes entries) (filter passes entries)) h → passes h ≡ true
    by true e later (inl same) = ap passes (sym same) ∙ e
    by true e later (inr more) = later more
    by false e later more = later more

-- what one list of the view has of what is found, another one has too
found_too : (passes : HistoryRecord → Bool) (entries others : List HistoryRecord) → ((h : HistoryRecord) → Contains entries h → Contains others h) → (h : HistoryRecord) → Contains (filter passes entries) h → Contains (filter passes others) h
found_too passes entries others over h c =
    let has = Has-from_Contains (filter passes entries) h c in
    let kept = passes_kept passes entries h has in
    let there = Has-from_Contains others h (over h (Contains-from_Has entries h (Has-filter passes entries h has))) in
    Contains-from_Has (filter passes others) h (Has-kept passes others h there kept)

moved : (passes : HistoryRecord → Bool) (entries others xs ys : List HistoryRecord) → ((h : HistoryRecord) → Contains entries h → Contains others h) → IsPermutation (filter passes entries) xs → IsPermutation (filter passes others) ys → (h : HistoryRecord) → Among h xs → Among h ys
moved passes entries others xs ys over p q h m =
    let mine = Among-permutation HistoryRecord xs (filter passes entries) h (IsPermutation-sym (filter passes entries) xs p) m in
    let there = found_too passes entries others over h (Contains-from_Among HistoryRecord (filter passes entries) h mine) in
    Among-permutation HistoryRecord (filter passes others) ys h q (Among-from_place HistoryRecord (filter passes others) h there.0 there.1 there.2)

pub search_one : (changes : List Change) (asked : ScopedQuery) (page other : List HistoryRecord) → SearchAnswer changes asked page → SearchAnswer changes asked other → page ≡ other
search_one changes asked page other p q =
    let mine = filter (is_found asked) p.entries in
    let yours = filter (is_found asked) q.entries in
    let over : (h : HistoryRecord) → Contains p.entries h → Contains q.entries h = λ h c. (q.listed.same h).1 ((p.listed.same h).0 c) in
    let back : (h : HistoryRecord) → Contains q.entries h → Contains p.entries h = λ h c. (p.listed.same h).1 ((q.listed.same h).0 c) in
    let p_own = HaveDistinctIds-permutation HistoryRecord (λ h. h.id) mine p.answer.in_order p.answer.found (HaveDistinctIds-filter HistoryRecord (λ h. h.id) (is_found asked) p.entries p.listed.own) in
    let q_own = HaveDistinctIds-permutation HistoryRecord (λ h. h.id) yours q.answer.in_order q.answer.found (HaveDistinctIds-filter HistoryRecord (λ h. h.id) (is_found asked) q.entries q.listed.own) in
    let same : p.answer.in_order ≡ q.answer.in_order = one_order HistoryRecord IsShownFirst IsShownFirst-strict p.answer.in_order q.answer.in_order
    (in_order p.answer.in_order p.answer.sorted p_own) (in_order q.answer.in_order q.answer.sorted q_own)
    (λ h m. moved (is_found asked) p.entries q.entries p.answer.in_order q.answer.in_order over p.answer.found q.answer.found h m)
    (λ h m. moved (is_found asked) q.entries p.entries q.answer.in_order p.answer.in_order back q.answer.found p.answer.found h m) in
    let hits = λ (hits : List HistoryRecord). drop asked.query.offset (cond asked.unique (firsts hits) hits) in
    IsPage-one hit_bytes asked.query.limit (hits q.answer.in_order) page other (subst (λ (ordered : List HistoryRecord). IsPage hit_bytes asked.query.limit (hits ordered) page) same p.answer.cut) q.answer.cut

-- ---- the plain search

-- the empty text matches every command
matches_all : (mode : SearchMode) (command : List ℕ) → matches_by mode [] command ≡ true
matches_all by_prefix command = starts_with-at [] (compared [] command)
matches_all by_substring command = stands_in-at [] [] (compared [] command)

all_kept : (passes : HistoryRecord → Bool) (entries : List HistoryRecord) → ((h : HistoryRecord) → passes h ≡ true) → filter passes entries ≡ entries
all_kept passes [] all = refl
all_kept passes (h ∷ entries) all = ap (λ (b : Bool). cond b (h ∷ filter passes entries) (filter passes entries)) (all h) ∙ ap (λ (hs : List HistoryRecord). h ∷ hs) (all_kept passes entries all)

abbrev for_all : SearchMode → (offset limit : ℕ) → ScopedQuery
for_all mode offset limit = record { scope = of_all; unique = false; query = record { mode = mode; text = []; offset = offset; limit = limit } }

pub plain_of_all : (mode : SearchMode) (offset limit : ℕ) (entries page : List HistoryRecord) → IsScopedAnswer (for_all mode offset limit) entries page ↔ IsAnswer offset limit entries page
plain_of_all mode offset limit entries page =
    let kept : filter (is_found (for_all mode offset limit)) entries ≡ entries = all_kept (is_found (for_all mode offset limit)) entries (λ h. matches_all mode h.command) in (
      λ p. record { in_order = p.in_order; all = subst (λ (hs : List HistoryRecord). IsPermutation hs p.in_order) kept p.found; sorted = p.sorted; cut = p.cut },
      λ p. record { in_order = p.in_order; found = subst (λ (hs : List HistoryRecord). IsPermutation hs p.in_order) (sym kept) p.all; sorted = p.sorted; cut = p.cut },
    )
