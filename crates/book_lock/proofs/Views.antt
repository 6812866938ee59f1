-- The rule over the list of views, where one of them changes.
use Rattle.std.proofs.Common.{◌≡◌, ◌≢◌, ℕ, ◌<◌, ◌≤◌, ⊎_elim, List, [], ◌∷◌, ◌++◌, set, refl, sym, ap, subst, ◌∙◌, false, zero, suc}
use Rattle.std.specs.Prelude.{All, None}
use mathlib.Core.Option.{some, some-ne-none}
use lib.ListN.{get_elem?}
use Rattle.atomic_table.proofs.Lists.{at_set}
use Rattle.session_rules.specs.Sessions.{is_of}
use Rattle.definitions.specs.Prefixes.{IsPrefix}
use Rattle.session_rules.specs.Books.{Book, Finds}
use Rattle.book_lock.specs.Views.{named, spent, PassView}
use Rattle.book_lock.specs.Rule.{ViewFits, NumbersApart, AllFit, NoneHolds}

pub fit_set : (world : Book) (next : ℕ) (views : List PassView) (id : ℕ) (new : PassView)
    → ((j : ℕ) (v : PassView) → j ≢ id → get_elem? views j ≡ some v → v.stage ≢ spent → ViewFits world next v)
    → (new.stage ≢ spent → ViewFits world next new) → AllFit world next (set views id new)
fit_set world next views id new others here j v at live =
    ⊎_elim (λ t. subst (λ (u : PassView). u.stage ≢ spent → ViewFits world next u) t.1 here live) (λ t. others j v t.0 t.1 live) (at_set views id j new v at)

pub apart_set : (views : List PassView) (id : ℕ) (new : PassView) → NumbersApart views
    → ((j : ℕ) (v : PassView) → j ≢ id → get_elem? views j ≡ some v → v.stage ≡ named → new.stage ≡ named → new.pass.number ≢ v.pass.number) → NumbersApart (set views id new)
apart_set views id new apart other i j v w at_i at_j is_v is_w same =
    ⊎_elim
    (λ s. ⊎_elim
    (λ t. s.0 ∙ sym t.0)
    (λ t. absurd (other j w t.0 t.1 is_w (ap (λ (u : PassView). u.stage) s.1 ∙ is_v) (ap (λ (u : PassView). u.pass.number) s.1 ∙ same)))
    (at_set views id j new w at_j))
    (λ s. ⊎_elim
    (λ t. absurd (other i v s.0 s.1 is_v (ap (λ (u : PassView). u.stage) t.1 ∙ is_w) (ap (λ (u : PassView). u.pass.number) t.1 ∙ sym same)))
    (λ t. apart i j v w s.1 t.1 is_v is_w same)
    (at_set views id j new w at_j))
    (at_set views id i new v at_i)

-- the same number as before
pub apart_still : (views : List PassView) (id : ℕ) (old new : PassView) → NumbersApart views → get_elem? views id ≡ some old → old.stage ≡ named → new.pass.number ≡ old.pass.number → NumbersApart (set views id new)
apart_still views id old new apart at is_named same =
    apart_set views id new apart (λ j v not_id at_j is_v is_new e. not_id (sym (apart id j old v at at_j is_named is_v (sym same ∙ e))))

pub none_set : (views : List PassView) (id : ℕ) (new : PassView) → ((j : ℕ) (v : PassView) → get_elem? views j ≡ some v → j ≢ id → v.held ≡ None) → new.held ≡ None → NoneHolds (set views id new)
none_set views id new nobody here j v at =
    ⊎_elim (λ t. subst (λ (u : PassView). u.held ≡ None) t.1 here) (λ t. nobody j v t.1 t.0) (at_set views id j new v at)

pub others_set : (views : List PassView) (id : ℕ) (new : PassView) → ((j : ℕ) (v : PassView) → get_elem? views j ≡ some v → j ≢ id → v.held ≡ None)
    → (j : ℕ) (v : PassView) → get_elem? (set views id new) j ≡ some v → j ≢ id → v.held ≡ None
others_set views id new nobody j v at not_id = ⊎_elim (λ t. absurd (not_id t.0)) (λ t. nobody j v t.1 t.0) (at_set views id j new v at)

-- a view fits with what doesn't matter to it replaced
pub fits_as : (world : Book) (next : ℕ) (v w : PassView) → ViewFits world next v → w.pass ≡ v.pass → w.stage ≡ v.stage → w.olds ≡ v.olds → ViewFits world next w
fits_as world next v w f pass stage olds = record {
  since = f.since;
  entries = f.entries ∙ ap (λ p. p.seen ++ f.since) (sym pass);
  of_others = λ is_w. subst (λ p. (1 ≤ p.number) × All (λ e. is_of p.number e ≡ false) f.since) (sym pass) (f.of_others (sym stage ∙ is_w));
  faults = subst (λ p. p.faults ≤ world.faults) (sym pass) f.faults;
  fixed = f.fixed ∙ ap (λ p. p.fixed) (sym pass);
  known = subst (λ p. p.number ≤ p.known) (sym pass) f.known;
  below = subst (λ p. p.known < next) (sym pass) f.below;
  olds = subst (λ p. All (λ old. IsPrefix old p.seen) w.olds) (sym pass) (subst (λ l. All (λ old. IsPrefix old v.pass.seen) l) (sym olds) f.olds);
  unnumbered = λ is_w. subst (λ p. p.number ≡ 0) (sym pass) (f.unnumbered (sym stage ∙ is_w));
}

pub fits_finds : (world : Book) (next : ℕ) (v : PassView) → ViewFits world next v → v.stage ≡ named → Finds v.pass world
fits_finds world next v f is_named = record { since = f.since; entries = f.entries; of_others = (f.of_others is_named).1; faults = f.faults; fixed = f.fixed }

pub here_set : (views : List PassView) (id : ℕ) (old new : PassView) → get_elem? views id ≡ some old → get_elem? (set views id new) id ≡ some new
here_set [] id old new at = absurd (some-ne-none old (sym at))
here_set (v ∷ vs) zero old new at = refl
here_set (v ∷ vs) (suc id) old new at = here_set vs id old new at

-- the turns of a view are of no matter to the rule
pub refits : (world : Book) (next : ℕ) (v w : PassView) → ViewFits world next v → w.pass.number ≡ v.pass.number → w.pass.seen ≡ v.pass.seen → w.pass.known ≡ v.pass.known → w.pass.faults ≡ v.pass.faults → w.pass.fixed ≡ v.pass.fixed → w.stage ≡ v.stage → w.olds ≡ v.olds → ViewFits world next w
refits world next v w f number seen known faults fixed stage olds = record {
  since = f.since;
  entries = f.entries ∙ ap (λ l. l ++ f.since) (sym seen);
  of_others = λ is_w. subst (λ n. (1 ≤ n) × All (λ e. is_of n e ≡ false) f.since) (sym number) (f.of_others (sym stage ∙ is_w));
  faults = subst (λ n. n ≤ world.faults) (sym faults) f.faults;
  fixed = f.fixed ∙ sym fixed;
  known = subst (λ n. n ≤ w.pass.known) (sym number) (subst (λ n. v.pass.number ≤ n) (sym known) f.known);
  below = subst (λ n. n < next) (sym known) f.below;
  olds = subst (λ p. All (λ old. IsPrefix old p) w.olds) (sym seen) (subst (λ l. All (λ old. IsPrefix old v.pass.seen) l) (sym olds) f.olds);
  unnumbered = λ is_w. number ∙ f.unnumbered (sym stage ∙ is_w);
}
