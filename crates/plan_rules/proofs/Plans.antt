-- A plan is in order, has each step that the counts ask for, and brings both counts of each place to the greater one.
use Rattle.std.proofs.Common.{◌≡◌, ℕ, Bool, true, false, cond, ltb, List, [], ◌∷◌, ◌++◌, map, max, Option, Some, None, refl, sym, ap, subst, ◌∙◌, arith, inl, inr}
use Rattle.std.specs.Prelude.{filter_map, ◌↔◌}
use Rattle.std.specs.List.{list_any, Contains, AllByRecursion, cons_option}
use Rattle.std.specs.declared.cmp.Ordering.TheVariants.{Less, Equal}
use Rattle.std.proofs.lemmas.Bool.{cases_Bool, true≢false, or_cases, or_parts, ltb-true, ltb-false, le-ltb}
use Rattle.std.proofs.lemmas.Cmp.{tied_itself}
use Rattle.std.proofs.lemmas.List.Folds.{list_any-append}
use Rattle.std.proofs.lemmas.Option.{same_Some, none-some}
use Rattle.definitions.proofs.Among.{Among, Among-from_place, Contains-from_Among, InOrder, one_order}
use Rattle.record_rules.specs.Journal.{ChainPlace, ChainCount, place_cmp, Ascends, is_count_of, count_at}
use Rattle.record_rules.proofs.Status.{is_place, place_total, names_place, not_among_later}
use Rattle.plan_rules.specs.Plans.{PlanStep, Upload, Download, step_place, step_between, places_listed, step_at, plan}
use Rattle.plan_rules.specs.Laws.{local_end, remote_end, or_count, count_after, Levelled}
use Rattle.plan_rules.proofs.Places.{listed_ascend, any_listed, not_counted}

-- ---- one step

by_test : {P : Type 0} (t : Bool) → (t ≡ true → P) → (t ≡ false → P) → P
by_test true f g = f refl
by_test false f g = g refl

-- a step is of the place that asks for it
step_is_of_place : (place : ChainPlace) (m n : ℕ) (step : PlanStep) → step_between place m n ≡ Some step → step_place step ≡ place
step_is_of_place place m n step e =
    by_test (ltb n m)
    (λ t. let found = rw t at e in ap step_place (sym (same_Some (Upload place n m) step found)))
    (λ f. let e1 = rw f at e in by_test (ltb m n)
    (λ t. let found = rw t at e1 in ap step_place (sym (same_Some (Download place m n) step found)))
    (λ g. let none = rw g at e1 in absurd (none-some step none)))

no_step_between : (place : ChainPlace) (n : ℕ) → step_between place n n ≡ None
no_step_between place n = let same : ltb n n ≡ false = le-ltb n n (omega arith) in rw same refl

-- the count after a step, or after none
abbrev end_after : (PlanStep → Option ℕ) → Option PlanStep → ℕ → ℕ
end_after end_of None count = count
end_after end_of (Some step) count = or_count (end_of step) count

local_levels : (place : ChainPlace) (m n : ℕ) → end_after local_end (step_between place m n) m ≡ max m n
local_levels place m n =
    by_test (ltb n m)
    (λ t. let more = ltb-true n m t in rw t (omega arith))
    (λ f. let less = ltb-false n m f in rw f (by_test (ltb m n)
    (λ t. rw t (omega arith))
    (λ g. let most = ltb-false m n g in rw g (omega arith))))

remote_levels : (place : ChainPlace) (m n : ℕ) → end_after remote_end (step_between place m n) n ≡ max m n
remote_levels place m n =
    by_test (ltb n m)
    (λ t. let more = ltb-true n m t in rw t (omega arith))
    (λ f. let less = ltb-false n m f in rw f (by_test (ltb m n)
    (λ t. let more = ltb-true m n t in rw t (omega arith))
    (λ g. let most = ltb-false m n g in rw g (omega arith))))

-- ---- the steps of places

at_place : (host : ℕ) (tag : List ℕ) (place : ChainPlace) → is_place host tag place ≡ true → place ≡ record { host = host; tag = tag }
at_place host tag place here = let same = names_place host tag place here in λ i. record { host = same.0 i; tag = same.1 i }

module _ (asks : ChainPlace → Option PlanStep) (own : (place : ChainPlace) (step : PlanStep) → asks place ≡ Some step → step_place step ≡ place) where
  asked_by : (places : List ChainPlace) (step : PlanStep) → Among step (filter_map asks places) → (place : ChainPlace) × (asks place ≡ Some step)
  asked_by [] step m = absurd m
  asked_by (place ∷ places) step m = by (asks place) refl m (λ more. asked_by places step more)
    where
      by : (o : Option PlanStep) → asks place ≡ o → Among step (cons_option o (filter_map asks places)) → (Among step (filter_map asks places) → (place : ChainPlace) × (asks place ≡ Some step)) → (place : ChainPlace) × (asks place ≡ Some step)
      by None e m rest = rest m
      by (Some first) e (inl same) rest = (place, e ∙ ap Some (sym same))
      by (Some first) e (inr m) rest = rest m

  asked : (places : List ChainPlace) (place : ChainPlace) (step : PlanStep) → list_any (is_place place.host place.tag) places ≡ true → asks place ≡ Some step → Among step (filter_map asks places)
  asked [] place step has e = absurd (true≢false (sym has))
  asked (other ∷ places) place step has e =
      elim (or_cases (is_place place.host place.tag other) (list_any (is_place place.host place.tag) places) has) [
        | inl here ↦ let found : asks other ≡ Some step = ap asks (at_place place.host place.tag other here) ∙ e in rw found (inl refl)
        | inr later ↦ by (asks other) (asked places place step later e)
      ]
    where
      by : (o : Option PlanStep) → Among step (filter_map asks places) → Among step (cons_option o (filter_map asks places))
      by None m = m
      by (Some first) m = inr m

  all_asked : (P : ChainPlace → Type 0) (places : List ChainPlace) → AllByRecursion P places → AllByRecursion P (map step_place (filter_map asks places))
  all_asked P [] all = tt
  all_asked P (place ∷ places) all = by (asks place) refl (all_asked P places all.1)
    where
      by : (o : Option PlanStep) → asks place ≡ o → AllByRecursion P (map step_place (filter_map asks places)) → AllByRecursion P (map step_place (cons_option o (filter_map asks places)))
      by None e rest = rest
      by (Some step) e rest = (subst P (sym (own place step e)) all.0, rest)

  asked_ascend : (places : List ChainPlace) → Ascends places → Ascends (map step_place (filter_map asks places))
  asked_ascend [] ascends = tt
  asked_ascend (place ∷ places) ascends = by (asks place) refl (all_asked (λ later. place_cmp place later ≡ Less) places ascends.0) (asked_ascend places ascends.1)
    where
      by : (o : Option PlanStep) → asks place ≡ o → AllByRecursion (λ later. place_cmp place later ≡ Less) (map step_place (filter_map asks places)) → Ascends (map step_place (filter_map asks places)) → Ascends (map step_place (cons_option o (filter_map asks places)))
      by None e all rest = rest
      by (Some step) e all rest = (subst (λ (p : ChainPlace). AllByRecursion (λ later. place_cmp p later ≡ Less) (map step_place (filter_map asks places))) (sym (own place step e)) all, rest)

  module _ (end_of : PlanStep → Option ℕ) (host : ℕ) (tag : List ℕ) where
    -- the step that a place asks for brings its own count to its end, and leaves any other
    first_end : (place : ChainPlace) (steps : List PlanStep) (count : ℕ) → count_after end_of (cons_option (asks place) steps) host tag count ≡ count_after end_of steps host tag (cond (is_place host tag place) (end_after end_of (asks place) count) count)
    first_end place steps count = by (asks place) refl
      where
        by : (o : Option PlanStep) → asks place ≡ o → count_after end_of (cons_option o steps) host tag count ≡ count_after end_of steps host tag (cond (is_place host tag place) (end_after end_of o count) count)
        by None e = elim (is_place host tag place) as (λ b. count_after end_of steps host tag count ≡ count_after end_of steps host tag (cond b count count)) [
          | true ↦ refl
          | false ↦ refl
        ]
        by (Some step) e = ap (λ (p : ChainPlace). count_after end_of steps host tag (cond (is_place host tag p) (or_count (end_of step) count) count)) (own place step e)

    -- so the count of each of the places comes to the end that it asks for, and any other stays
    steps_end : (places : List ChainPlace) (count : ℕ) → Ascends places → count_after end_of (filter_map asks places) host tag count ≡ cond (list_any (is_place host tag) places) (end_after end_of (asks (record { host = host; tag = tag })) count) count
    steps_end [] count ascends = refl
    steps_end (place ∷ places) count ascends =
        first_end place (filter_map asks places) count ∙ steps_end places (cond (is_place host tag place) (end_after end_of (asks place) count) count) ascends.1 ∙ elim (cases_Bool (is_place host tag place)) [
          | inl here ↦
              let at = names_place host tag place here in
              let gone : list_any (is_place host tag) places ≡ false = (λ i. list_any (is_place (sym at.0 i) (sym at.1 i)) places) ∙ not_among_later place places ascends.0 in
              rw (here, gone) (ap (λ (p : ChainPlace). end_after end_of (asks p) count) (at_place host tag place here))
          | inr elsewhere ↦ rw elsewhere refl
        ]

-- ---- plans

module _ (local remote : List ChainCount) where
  own_place : (place : ChainPlace) (step : PlanStep) → step_at local remote place ≡ Some step → step_place step ≡ place
  own_place place step e = step_is_of_place place (count_at local place.host place.tag) (count_at remote place.host place.tag) step e

  -- the places of both statuses
  abbrev places : List ChainPlace
  places = places_listed (local ++ remote)

  -- a place that isn't listed asks for nothing
  not_listed : (host : ℕ) (tag : List ℕ) → list_any (is_place host tag) places ≡ false → step_at local remote (record { host = host; tag = tag }) ≡ None
  not_listed host tag none =
      let parts = or_parts (list_any (is_count_of host tag) local) (list_any (is_count_of host tag) remote) (sym (list_any-append (is_count_of host tag) local remote) ∙ sym (any_listed host tag (local ++ remote)) ∙ none) in
      λ i. step_between (record { host = host; tag = tag }) (not_counted host tag local parts.0 i) (not_counted host tag remote parts.1 i)

  pub plan_ascends : Ascends (map step_place (plan local remote))
  plan_ascends = asked_ascend (step_at local remote) own_place places (listed_ascend (local ++ remote))

  step_in_plan : (step : PlanStep) → Among step (plan local remote) → step_at local remote (step_place step) ≡ Some step
  step_in_plan step m =
      let by = asked_by (step_at local remote) own_place places step m in
      ap (λ (p : ChainPlace). step_at local remote p) (own_place by.0 step by.1) ∙ by.1

  plan_has : (step : PlanStep) → step_at local remote (step_place step) ≡ Some step → Among step (plan local remote)
  plan_has step e =
      let place = step_place step in
      elim (cases_Bool (list_any (is_place place.host place.tag) places)) [
        | inl listed ↦ asked (step_at local remote) own_place places place step listed e
        | inr absent ↦ absurd (none-some step (sym (not_listed place.host place.tag absent) ∙ e))
      ]

  pub plan_has_each : (step : PlanStep) → Contains (plan local remote) step ↔ (step_at local remote (step_place step) ≡ Some step)
  plan_has_each step = (
    λ c. step_in_plan step (Among-from_place PlanStep (plan local remote) step c.0 c.1 c.2),
    λ e. Contains-from_Among PlanStep (plan local remote) step (plan_has step e),
  )

  levelled : (end_of : PlanStep → Option ℕ) (host : ℕ) (tag : List ℕ) (count : ℕ) → count_after end_of (plan local remote) host tag count ≡ end_after end_of (step_at local remote (record { host = host; tag = tag })) count
  levelled end_of host tag count =
      steps_end (step_at local remote) own_place end_of host tag places count (listed_ascend (local ++ remote)) ∙ elim (cases_Bool (list_any (is_place host tag) places)) [
        | inl listed ↦ rw listed refl
        | inr absent ↦ rw absent (ap (λ (o : Option PlanStep). end_after end_of o count) (sym (not_listed host tag absent)))
      ]

  pub plan_levels : (host : ℕ) (tag : List ℕ) → Levelled local remote host tag
  plan_levels host tag =
      let place : ChainPlace = record { host = host; tag = tag } in
      let m = count_at local host tag in
      let n = count_at remote host tag in
      record {
        local_is = levelled local_end host tag m ∙ local_levels place m n;
        remote_is = levelled remote_end host tag n ∙ remote_levels place m n;
      }

-- ---- plans of equal counts

abbrev StandsBefore : PlanStep → PlanStep → Type 0
StandsBefore x y = place_cmp (step_place x) (step_place y) ≡ Less

strict : (x y : PlanStep) → StandsBefore x y → StandsBefore y x → ⊥
strict x y less greater =
    let place = step_place x in
    let both : Less ≡ Equal = sym (place_total.trans place (step_place y) place less greater) ∙ tied_itself place_total place in
    cc

all_before : (P : ChainPlace → Type 0) (steps : List PlanStep) → AllByRecursion P (map step_place steps) → (step : PlanStep) → Among step steps → P (step_place step)
all_before P [] all step m = absurd m
all_before P (first ∷ steps) all step (inl e) = subst P (ap step_place (sym e)) all.0
all_before P (first ∷ steps) all step (inr m) = all_before P steps all.1 step m

in_order : (steps : List PlanStep) → Ascends (map step_place steps) → InOrder PlanStep StandsBefore steps
in_order [] ascends = tt
in_order (step ∷ steps) ascends = (λ later m. all_before (λ place. place_cmp (step_place step) place ≡ Less) steps ascends.0 later m, in_order steps ascends.1)

pub counts_make_plan : (local remote one other : List ChainCount) → ((host : ℕ) (tag : List ℕ) → count_at local host tag ≡ count_at one host tag) → ((host : ℕ) (tag : List ℕ) → count_at remote host tag ≡ count_at other host tag) → plan local remote ≡ plan one other
counts_make_plan local remote one other locals remotes =
    let same : (place : ChainPlace) → step_at local remote place ≡ step_at one other place = λ place i. step_between place (locals place.host place.tag i) (remotes place.host place.tag i) in
    one_order PlanStep StandsBefore strict (plan local remote) (plan one other)
    (in_order (plan local remote) (plan_ascends local remote)) (in_order (plan one other) (plan_ascends one other))
    (λ step m. plan_has one other step (sym (same (step_place step)) ∙ step_in_plan local remote step m))
    (λ step m. plan_has local remote step (same (step_place step) ∙ step_in_plan one other step m))

-- what is in order and has each step that is asked for is the plan
pub steps_are_plan : (local remote : List ChainCount) (steps : List PlanStep) → Ascends (map step_place steps) → ((step : PlanStep) → Contains steps step ↔ (step_at local remote (step_place step) ≡ Some step)) → steps ≡ plan local remote
steps_are_plan local remote steps up asked =
    one_order PlanStep StandsBefore strict steps (plan local remote) (in_order steps up) (in_order (plan local remote) (plan_ascends local remote))
    (λ step m. plan_has local remote step ((asked step).0 (Contains-from_Among PlanStep steps step m)))
    (λ step m. let c = (asked step).1 (step_in_plan local remote step m) in Among-from_place PlanStep steps step c.0 c.1 c.2)

-- nothing is in an empty list alone
pub equal_counts : (local remote : List ChainCount) → ((host : ℕ) (tag : List ℕ) → count_at local host tag ≡ count_at remote host tag) → plan local remote ≡ []
equal_counts local remote same = by (plan local remote) refl
  where
    by : (steps : List PlanStep) → plan local remote ≡ steps → plan local remote ≡ []
    by [] e = e
    by (step ∷ steps) e =
        let place = step_place step in
        let asks = step_in_plan local remote step (subst (λ (all : List PlanStep). Among step all) (sym e) (inl refl)) in
        let none : step_at local remote place ≡ None = (λ i. step_between place (same place.host place.tag i) (count_at remote place.host place.tag)) ∙ no_step_between place (count_at remote place.host place.tag) in
        absurd (none-some step (sym none ∙ asks))
