-- Commands that stand in order are sorted, and have ids of their own.
use Rattle.std.proofs.Common.{◌≡◌, ℕ, zero, suc, ◌+◌, List, [], ◌∷◌, Some, Bool, true, false, eqb, refl, sym, ap, ◌∙◌, arith, inl, inr}
use Rattle.std.specs.List.{AllByRecursion, IsDistinct}
use Rattle.std.specs.List.Sorted.{IsSortedBy}
use Rattle.std.proofs.lemmas.Bool.{eqb-true, true≢false}
use Rattle.std.proofs.lemmas.Bool.Decides.{nat_tests}
use Rattle.definitions.specs.Journal.{HistoryRecord, HaveDistinctIds}
use Rattle.definitions.specs.Search.{is_shown_before}
use Rattle.definitions.proofs.Among.{Among, Contains-from_Among}
use Rattle.history_view.specs.ViewState.{ViewState}
use Rattle.history_view.specs.Walk.{shown_command, StandInOrder, AreShown}

one_way : (a b c d : ℕ) (h k : HistoryRecord) → h.timestamp ≡ a → h.id ≡ b → k.timestamp ≡ c → k.id ≡ d → is_shown_before h k ≡ true → is_shown_before k h ≡ false
one_way a b c d h k e f g i before = grind (arith, nat_tests)

never_itself : (a b : ℕ) (h : HistoryRecord) → h.timestamp ≡ a → h.id ≡ b → is_shown_before h h ≡ false
never_itself a b h e f = grind (arith, nat_tests)

pub sorted_from : (hs : List HistoryRecord) → StandInOrder hs → IsSortedBy is_shown_before hs
sorted_from [] stand k d low high = absurd (omega arith)
sorted_from (h ∷ []) stand k d low high = absurd (omega arith)
sorted_from (h ∷ g ∷ hs) stand zero d low high = one_way h.timestamp h.id g.timestamp g.id h g refl refl refl refl stand.0.0
sorted_from (h ∷ g ∷ hs) stand (suc k) d low high = let e : suc k + 1 ≡ suc (k + 1) = omega arith in rw e (sorted_from (g ∷ hs) stand.1 k d (omega arith) (omega arith))

module _ (s : ViewState) where
  others : (h : HistoryRecord) → shown_command s h.id ≡ Some h → (hs : List HistoryRecord) → ((k : HistoryRecord) → Among k hs → shown_command s k.id ≡ Some k) → AllByRecursion (λ (later : HistoryRecord). is_shown_before h later ≡ true) hs
      → AllByRecursion (λ (later : HistoryRecord). eqb h.id later.id ≡ false) hs
  others h at [] shown all = tt
  others h at (k ∷ hs) shown all = (by (eqb h.id k.id) refl, others h at hs (λ g m. shown g (inr m)) all.1)
    where
      by : (t : Bool) → eqb h.id k.id ≡ t → eqb h.id k.id ≡ false
      by false t = t
      by true t =
          let both : Some h ≡ Some k = sym at ∙ ap (shown_command s) (eqb-true h.id k.id t) ∙ shown k (inl refl) in
          let same : h ≡ k = cc in
          let again : is_shown_before h h ≡ true = ap (is_shown_before h) same ∙ all.0 in
          absurd (true≢false (sym again ∙ never_itself h.timestamp h.id h refl refl))

  own_from : (hs : List HistoryRecord) → ((k : HistoryRecord) → Among k hs → shown_command s k.id ≡ Some k) → StandInOrder hs → HaveDistinctIds (λ (h : HistoryRecord). h.id) hs
  unfolding IsDistinct
  own_from [] shown stand = tt
  own_from (h ∷ hs) shown stand = (others h (shown h (inl refl)) hs (λ k m. shown k (inr m)) stand.0, own_from hs (λ k m. shown k (inr m)) stand.1)

  pub own_ids : (hs : List HistoryRecord) → AreShown s hs → StandInOrder hs → HaveDistinctIds (λ (h : HistoryRecord). h.id) hs
  own_ids hs are stand = own_from hs (λ k m. (are k).0 (Contains-from_Among HistoryRecord hs k m)) stand
