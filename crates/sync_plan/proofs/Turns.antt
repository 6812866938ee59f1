-- The plan of two statuses in order begins with the step of their first place, and goes on with the plan of what is behind it.
use Rattle.std.proofs.Common.{◌≡◌, ℕ, ◌<◌, ◌+◌, Bool, true, false, ltb, List, [], ◌∷◌, ◌++◌, length, map, Option, Some, None, refl, sym, ap, subst, ◌∙◌, arith, inl, inr, ◌⊎◌, append_assoc, append-nil}
use Rattle.std.specs.Prelude.{◌==◌, bytes_eq}
use Rattle.std.specs.List.{AllByRecursion, cons_option}
use Rattle.std.specs.declared.cmp.Ordering.{Ordering}
use Rattle.std.specs.declared.cmp.Ordering.TheVariants.{Less, Equal, Greater}
use Rattle.std.specs.Ordering.{is_eq, nat_cmp, ordering_then, ordering_reverse}
use Rattle.std.specs.Cmp.Lexicographic.{slice_cmp, texts_ties}
use Rattle.std.proofs.lemmas.Bool.{cases_Bool, and_from, eq-eqb}
use Rattle.std.proofs.lemmas.Cmp.{ranked, tied_itself}
use Rattle.std.proofs.lemmas.Option.{same_Some, none-some}
use Rattle.std.proofs.lemmas.Slice.Eq.{bytes_eq-Decides}
use Rattle.definitions.proofs.Among.{Among, Among-from_place, Contains-from_Among}
use Rattle.record_rules.specs.Journal.{ChainPlace, ChainCount, place_cmp, Ascends, is_count_of, count_at}
use Rattle.record_rules.proofs.Status.{is_place, place_total, names_place}
use Rattle.plan_rules.specs.Plans.{PlanStep, Upload, Download, step_place, step_between, step_at, plan}
use Rattle.plan_rules.proofs.Plans.{plan_ascends, plan_has_each, steps_are_plan}
use Rattle.sync_plan.specs.FirstPlaces.{place_of, FirstOf, earlier, first_of}

-- ---- one step

by_test : {P : Type 0} (t : Bool) → (t ≡ true → P) → (t ≡ false → P) → P
by_test true f g = f refl
by_test false f g = g refl

step_is_of_place : (place : ChainPlace) (m n : ℕ) (step : PlanStep) → step_between place m n ≡ Some step → step_place step ≡ place
step_is_of_place place m n step e =
    by_test (ltb n m)
    (λ t. let found = rw t at e in ap step_place (sym (same_Some (Upload place n m) step found)))
    (λ f. let e1 = rw f at e in by_test (ltb m n)
    (λ t. let found = rw t at e1 in ap step_place (sym (same_Some (Download place m n) step found)))
    (λ g. let none = rw g at e1 in absurd (none-some step none)))

no_step_of_none : (place : ChainPlace) → step_between place 0 0 ≡ None
no_step_of_none place = refl

-- ---- what taking a place from a status leaves

-- a status has this count of a place, and what is behind it is this
record Takes (place : ChainPlace) (count : ℕ) (old new : List ChainCount) : Type 0 where
  here : count_at old place.host place.tag ≡ count
  gone : count_at new place.host place.tag ≡ 0
  others : (host : ℕ) (tag : List ℕ) → is_place host tag place ≡ false → count_at old host tag ≡ count_at new host tag
  later : (host : ℕ) (tag : List ℕ) → (count_at new host tag ≡ 0) ⊎ (place_cmp place (record { host = host; tag = tag }) ≡ Less)

abbrev AllLater : ChainPlace → List ChainCount → Type 0
AllLater place counts = AllByRecursion (λ later. place_cmp place later ≡ Less) (map place_of counts)

is_later : (place : ChainPlace) (counts : List ChainCount) → AllLater place counts → (host : ℕ) (tag : List ℕ) → (count_at counts host tag ≡ 0) ⊎ (place_cmp place (record { host = host; tag = tag }) ≡ Less)
is_later place [] all host tag = inl refl
is_later place (listed ∷ counts) all host tag =
    elim (cases_Bool (is_count_of host tag listed)) [
      | inl here ↦ let at = names_place host tag (place_of listed) here in inr ((λ i. place_cmp place (record { host = sym at.0 i; tag = sym at.1 i })) ∙ all.0)
      | inr elsewhere ↦ rw elsewhere (is_later place counts all.1 host tag)
    ]

none_here : (place : ChainPlace) (counts : List ChainCount) → AllLater place counts → count_at counts place.host place.tag ≡ 0
none_here place counts all = elim (is_later place counts all place.host place.tag) [
  | inl none ↦ none
  | inr less ↦ absurd (not_itself less)
]
  where
    not_itself : place_cmp place place ≡ Less → ⊥
    not_itself less = let same : place_cmp place place ≡ Equal = tied_itself place_total place in cc

takes_none : (place : ChainPlace) (counts : List ChainCount) → AllLater place counts → Takes place 0 counts counts
takes_none place counts all = record {
  here = none_here place counts all;
  gone = none_here place counts all;
  others = λ host tag e. refl;
  later = is_later place counts all;
}

itself : (place : ChainPlace) → is_place place.host place.tag place ≡ true
itself place = and_from (place.host == place.host) (bytes_eq place.tag place.tag) (eq-eqb place.host place.host refl) ((bytes_eq-Decides place.tag place.tag).1 refl)

takes_first : (listed : ChainCount) (counts : List ChainCount) → AllLater (place_of listed) counts → Takes (place_of listed) listed.count (listed ∷ counts) counts
takes_first listed counts all = record {
  here = rw (itself (place_of listed)) refl;
  gone = none_here (place_of listed) counts all;
  others = λ host tag e. rw e refl;
  later = is_later (place_of listed) counts all;
}

later_than : (place other : ChainPlace) (counts : List ChainCount) → place_cmp place other ≡ Less → AllLater other counts → AllLater place counts
later_than place other [] less all = tt
later_than place other (listed ∷ counts) less all = (place_total.trans place other (place_of listed) less all.0, later_than place other counts less all.1)

-- ---- the first step

all_members : (P : ChainPlace → Type 0) (steps : List PlanStep) → ((step : PlanStep) → Among step steps → P (step_place step)) → AllByRecursion P (map step_place steps)
all_members P [] each = tt
all_members P (step ∷ steps) each = (each step (inl refl), all_members P steps (λ later m. each later (inr m)))

module _ (place : ChainPlace) (m n : ℕ) (local local' remote remote' : List ChainCount) (ours : Takes place m local local') (theirs : Takes place n remote remote') where
  in_rest : (step : PlanStep) → Among step (plan local' remote') → step_at local' remote' (step_place step) ≡ Some step
  in_rest step among = (plan_has_each local' remote' step).0 (Contains-from_Among PlanStep (plan local' remote') step among)

  rest_has : (step : PlanStep) → step_at local' remote' (step_place step) ≡ Some step → Among step (plan local' remote')
  rest_has step e = let c = (plan_has_each local' remote' step).1 e in Among-from_place PlanStep (plan local' remote') step c.0 c.1 c.2

  -- every step of the rest is of a later place
  rest_later : (step : PlanStep) → Among step (plan local' remote') → place_cmp place (step_place step) ≡ Less
  rest_later step among =
      let at = step_place step in
      let asks = in_rest step among in
      elim (ours.later at.host at.tag) [
        | inr less ↦ less
        | inl no_local ↦ elim (theirs.later at.host at.tag) [
          | inr less ↦ less
          | inl no_remote ↦
              let none : step_at local' remote' at ≡ None = λ i. step_between at (no_local i) (no_remote i) in
              absurd (none-some step (sym none ∙ asks))
        ]
      ]

  ascends : (o : Option PlanStep) → step_between place m n ≡ o → Ascends (map step_place (cons_option o (plan local' remote')))
  ascends None e = plan_ascends local' remote'
  ascends (Some step) e =
      let own = step_is_of_place place m n step e in
      (subst (λ (p : ChainPlace). AllByRecursion (λ later. place_cmp p later ≡ Less) (map step_place (plan local' remote'))) (sym own) (all_members (λ later. place_cmp place later ≡ Less) (plan local' remote') rest_later), plan_ascends local' remote')

  at_first : step_at local remote place ≡ step_between place m n
  at_first = λ i. step_between place (ours.here i) (theirs.here i)

  elsewhere : (at : ChainPlace) → is_place at.host at.tag place ≡ false → step_at local remote at ≡ step_at local' remote' at
  elsewhere at e = λ i. step_between at (ours.others at.host at.tag e i) (theirs.others at.host at.tag e i)

  same_place : (at : ChainPlace) → is_place at.host at.tag place ≡ true → place ≡ at
  same_place at e = let same = names_place at.host at.tag place e in λ i. record { host = same.0 i; tag = same.1 i }

  none_of_it : step_at local' remote' place ≡ None
  none_of_it = λ i. step_between place (ours.gone i) (theirs.gone i)

  from_rest : (step : PlanStep) → Among step (plan local' remote') → step_at local remote (step_place step) ≡ Some step
  from_rest step among =
      let at = step_place step in
      elim (cases_Bool (is_place at.host at.tag place)) [
        | inl here ↦ absurd (none-some step (sym none_of_it ∙ ap (step_at local' remote') (same_place at here) ∙ in_rest step among))
        | inr other ↦ elsewhere at other ∙ in_rest step among
      ]

  is_asked : (o : Option PlanStep) → step_between place m n ≡ o → (step : PlanStep) → Among step (cons_option o (plan local' remote')) → step_at local remote (step_place step) ≡ Some step
  is_asked None e step among = from_rest step among
  is_asked (Some first) e step (inl same) =
      let own = step_is_of_place place m n first e in
      ap (λ (s : PlanStep). step_at local remote (step_place s)) same ∙ ap (step_at local remote) own ∙ at_first ∙ e ∙ ap Some (sym same)
  is_asked (Some first) e step (inr among) = from_rest step among

  has_asked : (o : Option PlanStep) → step_between place m n ≡ o → (step : PlanStep) → step_at local remote (step_place step) ≡ Some step → Among step (cons_option o (plan local' remote'))
  has_asked o e step asks =
      let at = step_place step in
      elim (cases_Bool (is_place at.host at.tag place)) [
        | inl here ↦ first o (sym e ∙ sym at_first ∙ ap (step_at local remote) (same_place at here) ∙ asks)
        | inr other ↦ later o (rest_has step (sym (elsewhere at other) ∙ asks))
      ]
    where
      first : (o : Option PlanStep) → o ≡ Some step → Among step (cons_option o (plan local' remote'))
      first None none = absurd (none-some step none)
      first (Some s) same = inl (sym (same_Some s step same))

      later : (o : Option PlanStep) → Among step (plan local' remote') → Among step (cons_option o (plan local' remote'))
      later None among = among
      later (Some s) among = inr among

  first_step : plan local remote ≡ cons_option (step_between place m n) (plan local' remote')
  first_step =
      let o = step_between place m n in
      let steps = cons_option o (plan local' remote') in
      sym (steps_are_plan local remote steps (ascends o refl) (λ step. (
        λ c. is_asked o refl step (Among-from_place PlanStep steps step c.0 c.1 c.2),
        λ asks. Contains-from_Among PlanStep steps step (has_asked o refl step asks),
      )))

-- ---- the first place of two statuses

-- what is behind the first place is in order too, has fewer places, and its plan is the rest of the plan
pub record Continues (ours theirs : List ChainCount) (first : FirstOf) : Type 0 where
  pub plan_is : plan ours theirs ≡ cons_option (step_between first.place first.local first.remote) (plan first.ours first.theirs)
  pub ours_ascend : Ascends (map place_of first.ours)
  pub theirs_ascend : Ascends (map place_of first.theirs)
  pub fewer : length first.ours + length first.theirs < length ours + length theirs

both_equal : (a b : Ordering) → ordering_then a b ≡ Equal → (a ≡ Equal) × (b ≡ Equal)
both_equal Less b h = cc
both_equal Equal b h = (refl, h)
both_equal Greater b h = cc

tied_places : (place other : ChainPlace) → place_cmp place other ≡ Equal → place ≡ other
tied_places place other tied =
    let both = both_equal (nat_cmp place.host other.host) (slice_cmp nat_cmp place.tag other.tag) tied in
    let hosts : place.host ≡ other.host = ranked place.host other.host Equal (sym both.0) in
    let tags : place.tag ≡ other.tag = (bytes_eq-Decides place.tag other.tag).0 (texts_ties place.tag other.tag ∙ ap is_eq both.1) in
    λ i. record { host = hosts i; tag = tags i }

by_order : (o : Ordering) (one : ChainCount) (ours : List ChainCount) (other : ChainCount) (theirs : List ChainCount) → place_cmp (place_of one) (place_of other) ≡ o → Ascends (map place_of (one ∷ ours)) → Ascends (map place_of (other ∷ theirs)) → Continues (one ∷ ours) (other ∷ theirs) (earlier o one ours other theirs)
by_order Less one ours other theirs e up upper = record {
  plan_is = first_step (place_of one) one.count 0 (one ∷ ours) ours (other ∷ theirs) (other ∷ theirs) (takes_first one ours up.0) (takes_none (place_of one) (other ∷ theirs) (e, later_than (place_of one) (place_of other) theirs e upper.0));
  ours_ascend = up.1;
  theirs_ascend = upper;
  fewer = omega arith;
}
by_order Equal one ours other theirs e up upper =
    let same : place_of one ≡ place_of other = tied_places (place_of one) (place_of other) e in
    record {
      plan_is = first_step (place_of one) one.count other.count (one ∷ ours) ours (other ∷ theirs) theirs (takes_first one ours up.0) (subst (λ (p : ChainPlace). Takes p other.count (other ∷ theirs) theirs) (sym same) (takes_first other theirs upper.0));
      ours_ascend = up.1;
      theirs_ascend = upper.1;
      fewer = omega arith;
    }
by_order Greater one ours other theirs e up upper =
    let less : place_cmp (place_of other) (place_of one) ≡ Less = place_total.antisymm (place_of other) (place_of one) ∙ ap ordering_reverse e in
    record {
      plan_is = first_step (place_of other) 0 other.count (one ∷ ours) (one ∷ ours) (other ∷ theirs) theirs (takes_none (place_of other) (one ∷ ours) (less, later_than (place_of other) (place_of one) ours less up.0)) (takes_first other theirs upper.0);
      ours_ascend = up;
      theirs_ascend = upper.1;
      fewer = omega arith;
    }

pub continues : (ours theirs : List ChainCount) (first : FirstOf) → Ascends (map place_of ours) → Ascends (map place_of theirs) → first_of ours theirs ≡ Some first → Continues ours theirs first
continues [] [] first up upper e = absurd (none-some first e)
continues (one ∷ ours) [] first up upper e = subst (Continues (one ∷ ours) []) (same_Some _ first e) (record {
  plan_is = first_step (place_of one) one.count 0 (one ∷ ours) ours [] [] (takes_first one ours up.0) (takes_none (place_of one) [] tt);
  ours_ascend = up.1;
  theirs_ascend = tt;
  fewer = omega arith;
})
continues [] (other ∷ theirs) first up upper e = subst (Continues [] (other ∷ theirs)) (same_Some _ first e) (record {
  plan_is = first_step (place_of other) 0 other.count [] [] (other ∷ theirs) theirs (takes_none (place_of other) [] tt) (takes_first other theirs upper.0);
  ours_ascend = tt;
  theirs_ascend = upper.1;
  fewer = omega arith;
})
continues (one ∷ ours) (other ∷ theirs) first up upper e = subst (Continues (one ∷ ours) (other ∷ theirs)) (same_Some _ first e) (by_order (place_cmp (place_of one) (place_of other)) one ours other theirs refl up upper)

-- ---- the pass over both

-- the steps so far, and the plan of what is left, are the plan
pub record Owes (steps : List PlanStep) (ours theirs : List ChainCount) (all : List PlanStep) : Type 0 where
  pub owed : steps ++ plan ours theirs ≡ all
  pub ours_ascend : Ascends (map place_of ours)
  pub theirs_ascend : Ascends (map place_of theirs)

pub owes_all : (local remote : List ChainCount) → Ascends (map place_of local) → Ascends (map place_of remote) → Owes [] local remote (plan local remote)
owes_all local remote up upper = record { owed = refl; ours_ascend = up; theirs_ascend = upper }

-- the step of the first place is done, and the rest is owed
pub owes_less : (steps all : List PlanStep) (ours theirs : List ChainCount) (first : FirstOf) → Owes steps ours theirs all → first_of ours theirs ≡ Some first → Owes (steps ++ cons_option (step_between first.place first.local first.remote) []) first.ours first.theirs all
owes_less steps all ours theirs first owes e =
    let rest = continues ours theirs first owes.ours_ascend owes.theirs_ascend e in
    record {
      owed = one_more (step_between first.place first.local first.remote) steps (plan first.ours first.theirs) ∙ ap (λ (later : List PlanStep). steps ++ later) (sym rest.plan_is) ∙ owes.owed;
      ours_ascend = rest.ours_ascend;
      theirs_ascend = rest.theirs_ascend;
    }
  where
    one_more : (o : Option PlanStep) (steps later : List PlanStep) → (steps ++ cons_option o []) ++ later ≡ steps ++ cons_option o later
    one_more None steps later = simp append-nil
    one_more (Some step) steps later = simp append_assoc

pub owes_nothing : (steps all : List PlanStep) (ours theirs : List ChainCount) → Owes steps ours theirs all → first_of ours theirs ≡ None → steps ≡ all
owes_nothing steps all [] [] owes e = sym (append-nil steps) ∙ owes.owed
owes_nothing steps all (one ∷ ours) [] owes e = absurd (none-some _ (sym e))
owes_nothing steps all [] (other ∷ theirs) owes e = absurd (none-some _ (sym e))
owes_nothing steps all (one ∷ ours) (other ∷ theirs) owes e = absurd (none-some _ (sym e))

pub fewer_left : (steps all : List PlanStep) (ours theirs : List ChainCount) (first : FirstOf) → Owes steps ours theirs all → first_of ours theirs ≡ Some first → length first.ours + length first.theirs < length ours + length theirs
fewer_left steps all ours theirs first owes e = (continues ours theirs first owes.ours_ascend owes.theirs_ascend e).fewer
