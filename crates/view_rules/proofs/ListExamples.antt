-- Lists of three names, computed.
use Rattle.std.proofs.Common.{◌≡◌, ℕ, List, [], ◌∷◌, length, refl, sym, subst, arith, inl, inr}
use Rattle.std.specs.Prelude.{codes, ◌↔◌}
use Rattle.std.specs.List.{Contains}
use Rattle.std.specs.Cmp.Lexicographic.{slice_cmp}
use Rattle.std.specs.Ordering.{nat_cmp}
use Rattle.std.specs.declared.cmp.Ordering.TheVariants.{Less}
use Rattle.definitions.proofs.Search.{whole_page}
use Rattle.record_rules.proofs.Members.{Has}
use Rattle.definitions.specs.Search.{FitsPage}
use Rattle.view_rules.specs.Answers.{Named, named_bytes, Rises, IsAbove, IsListOf}
use Rattle.view_rules.specs.Examples.{named, is_one_of_three, WorkedLists}
use Rattle.view_rules.proofs.Records.{Has-from_Contains, Contains-from_Has}

abbrev a : Named
a = named (codes "a")

abbrev b : Named
b = named (codes "b")

abbrev empty : Named
empty = named []

abbrev all_three : List Named
all_three = empty ∷ a ∷ b ∷ []

abbrev Listed : (after : List ℕ) → Named → Type 0
Listed after item = is_one_of_three item × IsAbove after item.name

three_from : (item : Named) → Has all_three item → Listed [] item
three_from item (inl e) = (inr (inl (sym e)), inl refl)
three_from item (inr (inl e)) = (inr (inr (sym e)), inl refl)
three_from item (inr (inr (inl e))) = (inl (sym e), inl refl)
three_from item (inr (inr (inr none))) = absurd none

three_into : (item : Named) → is_one_of_three item → Has all_three item
three_into item (inl e) = inr (inr (inl (sym e)))
three_into item (inr (inl e)) = inl (sym e)
three_into item (inr (inr e)) = inr (inl (sym e))

three_same : (item : Named) → Contains all_three item ↔ Listed [] item
three_same item = (λ c. three_from item (Has-from_Contains all_three item c), λ l. Contains-from_Has all_three item (three_into item l.0))

three_rise : Rises all_three
three_rise = ((refl, (refl, tt)), ((refl, tt), (tt, tt)))

-- a page of all that is left
pub whole_list : (limit : ℕ) (There : Named → Type 0) (after : List ℕ) (page : List Named) → ((item : Named) → Contains page item ↔ (There item × IsAbove after item.name)) → Rises page → FitsPage named_bytes limit page → IsListOf There after limit page
whole_list limit There after page same rises fits = record { all = page; same = same; rises = rises; cut = whole_page named_bytes limit page fits }

-- ---- above a name

b_from : (after : List ℕ) → slice_cmp nat_cmp after (codes "b") ≡ Less → (item : Named) → Has (b ∷ []) item → Listed after item
b_from after less item (inl e) = (inl (sym e), inr (subst (λ (named : Named). slice_cmp nat_cmp after named.name ≡ Less) e less))
b_from after less item (inr none) = absurd none

-- the other two stand at the name or below it
record IsBetween (after : List ℕ) : Type 0 where
  some : after ≡ [] → ⊥
  above_empty : slice_cmp nat_cmp after [] ≡ Less → ⊥
  above_a : slice_cmp nat_cmp after (codes "a") ≡ Less → ⊥

not_above : (after : List ℕ) (item other : Named) → (after ≡ [] → ⊥) → (slice_cmp nat_cmp after other.name ≡ Less → ⊥) → item ≡ other → IsAbove after item.name → ⊥
not_above after item other some not_less e (inl none) = some none
not_above after item other some not_less e (inr less) = not_less (subst (λ (named : Named). slice_cmp nat_cmp after named.name ≡ Less) e less)

b_into : (after : List ℕ) → IsBetween after → (item : Named) → is_one_of_three item → IsAbove after item.name → Has (b ∷ []) item
b_into after between item (inl e) above = inl (sym e)
b_into after between item (inr (inl e)) above = absurd (not_above after item empty between.some between.above_empty e above)
b_into after between item (inr (inr e)) above = absurd (not_above after item a between.some between.above_a e above)

b_same : (after : List ℕ) → IsBetween after → slice_cmp nat_cmp after (codes "b") ≡ Less → (item : Named) → Contains (b ∷ []) item ↔ Listed after item
b_same after between less item = (λ c. b_from after less item (Has-from_Contains (b ∷ []) item c), λ l. Contains-from_Has (b ∷ []) item (b_into after between item l.0 l.1))

after_a : IsBetween (codes "a")
after_a = record { some = λ e. cc; above_empty = λ e. cc; above_a = λ e. cc }

after_ab : IsBetween (codes "ab")
after_ab = record { some = λ e. cc; above_empty = λ e. cc; above_a = λ e. cc }

too_heavy : (value : List ℕ) → length value ≡ 4194303 → FitsPage named_bytes 10 (record { name = codes "a"; value = value } ∷ named (codes "b") ∷ []) → ⊥
too_heavy value len fits = elim fits.1 [
  | inl few ↦ omega arith
  | inr light ↦ omega arith
]

pub lists : WorkedLists
lists = record {
  from_start = whole_list 10 is_one_of_three [] all_three three_same three_rise (omega arith, inr (omega arith));
  above_a = whole_list 10 is_one_of_three (codes "a") (b ∷ []) (b_same (codes "a") after_a refl) (tt, tt) (omega arith, inl (omega arith));
  above_ab = whole_list 10 is_one_of_three (codes "ab") (b ∷ []) (b_same (codes "ab") after_ab refl) (tt, tt) (omega arith, inl (omega arith));
  limit_1 = record { all = all_three; same = three_same; rises = three_rise; cut = record { rest = a ∷ b ∷ []; begins = refl; fits = (omega arith, inl (omega arith)); most = λ next others e more. let many = more.0 in omega arith } };
  at_most = λ value len. (omega arith, inr (omega arith));
  above = λ value len fits. too_heavy value len fits;
  single = λ value len. (omega arith, inl (omega arith));
}
