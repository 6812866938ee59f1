-- A page of what the view shows is the answer over its changes.
use Rattle.std.proofs.Common.{◌≡◌, ℕ, true, false, ◌||◌, ◌&&◌, eqb, ltb, List, filter, arith}
use Rattle.std.specs.Cmp.{IsStrictWeakOrder}
use Rattle.std.proofs.lemmas.Bool.Decides.{nat_tests}
use Rattle.std.proofs.lemmas.List.Kept.{IsSortedBy-filter}
use Rattle.std.proofs.lemmas.List.Sorted.{IsPermutation-refl}
use Rattle.definitions.specs.Journal.{HistoryRecord}
use Rattle.definitions.specs.Search.{is_shown_before}
use Rattle.view_rules.specs.Changes.{Change, HaveDistinctPlaces}
use Rattle.view_rules.specs.Answers.{is_found, SearchAnswer}
use Rattle.record_model.specs.declared.asking.Query.{Query}
use Rattle.history_view.specs.ViewState.{ViewState, Means}
use Rattle.history_view.proofs.History.{shows}
use Rattle.search_query.specs.Answers.{query_seen, IsAnswerOf, ListsShown}

-- ---- the order of hits

module _ (ta ia tb ib : ℕ) where
  one_way : (ltb tb ta || eqb ta tb && ltb ia ib) ≡ true → (ltb ta tb || eqb tb ta && ltb ib ia) ≡ false
  one_way e = grind (arith, nat_tests)

  chain : (tc ic : ℕ) → (ltb tb ta || eqb ta tb && ltb ia ib) ≡ false → (ltb tc tb || eqb tb tc && ltb ib ic) ≡ false → (ltb tc ta || eqb ta tc && ltb ia ic) ≡ false
  chain tc ic e f = grind (arith, nat_tests)

shown_order : IsStrictWeakOrder is_shown_before
shown_order = record {
  one_way = λ a b e. one_way a.timestamp a.id b.timestamp b.id e;
  chain = λ a b c e f. chain a.timestamp a.id b.timestamp b.id c.timestamp c.id e f;
}

-- ---- the answer

pub answered : (query : Query) (s : ViewState) (newest page : List HistoryRecord) → ListsShown s newest → IsAnswerOf query newest page → (changes : List Change) → Means s changes → HaveDistinctPlaces changes → SearchAnswer changes (query_seen query) page
answered query s newest page lists answer changes means own = record {
  entries = newest;
  listed = record {
    own = lists.own;
    same = λ h. (λ among. (shows s changes means own h).0 ((lists.shown h).0 among), λ shown. (lists.shown h).1 ((shows s changes means own h).1 shown));
  };
  answer = record { in_order = filter (is_found (query_seen query)) newest; found = IsPermutation-refl (filter (is_found (query_seen query)) newest); sorted = IsSortedBy-filter is_shown_before shown_order (is_found (query_seen query)) newest lists.sorted; cut = answer };
}
