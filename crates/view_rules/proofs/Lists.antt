-- A list of names has one answer.
use Rattle.std.proofs.Common.{◌≡◌, ℕ, List, [], ◌∷◌, sym, subst, ◌∙◌, inl, inr}
use Rattle.std.specs.List.{AllByRecursion}
use Rattle.std.specs.Cmp.Lexicographic.{slice_cmp}
use Rattle.std.specs.Ordering.{nat_cmp}
use Rattle.std.specs.declared.cmp.Ordering.TheVariants.{Less, Equal}
use Rattle.std.proofs.lemmas.Cmp.{nat_list_cmp_total, tied_itself}
use Rattle.definitions.specs.Search.{IsPage}
use Rattle.definitions.proofs.Search.{IsPage-one}
use Rattle.definitions.proofs.Among.{Among, Among-from_place, Contains-from_Among, InOrder, one_order}
use Rattle.view_rules.specs.Answers.{Named, named_bytes, Rises, IsListOf}

-- ---- the order

abbrev StandsBelow : Named → Named → Type 0
StandsBelow x y = slice_cmp nat_cmp x.name y.name ≡ Less

strict : (x y : Named) → StandsBelow x y → StandsBelow y x → ⊥
strict x y less greater =
    let both : Less ≡ Equal = sym (nat_list_cmp_total.trans x.name y.name x.name less greater) ∙ tied_itself nat_list_cmp_total x.name in
    cc

all_above : (P : Named → Type 0) (items : List Named) → AllByRecursion P items → (item : Named) → Among item items → P item
all_above P [] all item m = absurd m
all_above P (first ∷ items) all item (inl e) = subst P (sym e) all.0
all_above P (first ∷ items) all item (inr m) = all_above P items all.1 item m

rising : (items : List Named) → Rises items → InOrder Named StandsBelow items
rising [] rises = tt
rising (item ∷ items) rises = (λ later m. all_above (λ later. slice_cmp nat_cmp item.name later.name ≡ Less) items rises.0 later m, rising items rises.1)

-- ---- two answers

pub list_one : (There : Named → Type 0) (after : List ℕ) (limit : ℕ) (page other : List Named) → IsListOf There after limit page → IsListOf There after limit other → page ≡ other
list_one There after limit page other p q =
    let same : p.all ≡ q.all = one_order Named StandsBelow strict p.all q.all (rising p.all p.rises) (rising q.all q.rises)
    (λ item m. let c = (q.same item).1 ((p.same item).0 (Contains-from_Among Named p.all item m)) in Among-from_place Named q.all item c.0 c.1 c.2)
    (λ item m. let c = (p.same item).1 ((q.same item).0 (Contains-from_Among Named q.all item m)) in Among-from_place Named p.all item c.0 c.1 c.2) in
    IsPage-one named_bytes limit q.all page other (subst (λ (all : List Named). IsPage named_bytes limit all page) same p.cut) q.cut
