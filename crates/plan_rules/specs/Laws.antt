-- The laws of plans, as statements. Each is the contract of the function of its name.
use Rattle.std.specs.Prelude.{◌≡◌, ℕ, List, [], ◌∷◌, map, max, Option, Some, None, ◌==◌, ◌&&◌, bytes_eq, if◌then◌else◌, ◌↔◌}
use Rattle.std.specs.List.{Contains}
use Rattle.record_rules.specs.Journal.{ChainCount, Ascends, count_at}
use Rattle.plan_rules.specs.Plans.{PlanStep, Upload, Download, step_place, step_at, plan}

-- the steps are in order of host, then tag, and no place has two
abbrev pub PlanAscends : Type 0
PlanAscends = (local remote : List ChainCount) → Ascends (map step_place (plan local remote))

-- the plan has the step of a place exactly where its counts ask for it
abbrev pub PlanHasEachStep : Type 0
PlanHasEachStep = (local remote : List ChainCount) (step : PlanStep) → Contains (plan local remote) step ↔ (step_at local remote (step_place step) ≡ Some step)

-- and only the plan is such a list: steps in that order, of which each place has the one that its counts ask for, and no other
abbrev pub StepsAreThePlan : Type 0
StepsAreThePlan = (local remote : List ChainCount) (steps : List PlanStep) → Ascends (map step_place steps) → ((step : PlanStep) → Contains steps step ↔ (step_at local remote (step_place step) ≡ Some step)) → steps ≡ plan local remote

-- statuses that tell the same counts have one plan
abbrev pub CountsMakePlan : Type 0
CountsMakePlan = (local remote one other : List ChainCount) → ((host : ℕ) (tag : List ℕ) → count_at local host tag ≡ count_at one host tag) → ((host : ℕ) (tag : List ℕ) → count_at remote host tag ≡ count_at other host tag) → plan local remote ≡ plan one other

-- where the counts are equal nothing is to be done
abbrev pub EqualCountsNeedNothing : Type 0
EqualCountsNeedNothing = (local remote : List ChainCount) → ((host : ℕ) (tag : List ℕ) → count_at local host tag ≡ count_at remote host tag) → plan local remote ≡ []

-- ---- after a plan

-- the count to which a step brings its place at this store, and at the other one
abbrev pub local_end : PlanStep → Option ℕ
local_end (Upload place start end) = None
local_end (Download place start end) = Some end

abbrev pub remote_end : PlanStep → Option ℕ
remote_end (Upload place start end) = Some end
remote_end (Download place start end) = None

-- the count that is told, or the one before
abbrev pub or_count : Option ℕ → ℕ → ℕ
or_count None count = count
or_count (Some end) count = end

-- the count of a place after the steps, which each bring their place to its end
abbrev pub count_after : (PlanStep → Option ℕ) → List PlanStep → (host : ℕ) (tag : List ℕ) → ℕ → ℕ
count_after end_of [] host tag count = count
count_after end_of (step ∷ steps) host tag count =
    count_after end_of steps host tag (if (step_place step).host == host && bytes_eq (step_place step).tag tag then or_count (end_of step) count else count)

-- after all steps of a plan both hold the greater count of each place
pub record Levelled (local remote : List ChainCount) (host : ℕ) (tag : List ℕ) : Type 0 where
  pub local_is : count_after local_end (plan local remote) host tag (count_at local host tag) ≡ max (count_at local host tag) (count_at remote host tag)
  pub remote_is : count_after remote_end (plan local remote) host tag (count_at remote host tag) ≡ max (count_at local host tag) (count_at remote host tag)

abbrev pub PlanLevels : Type 0
PlanLevels = (local remote : List ChainCount) (host : ℕ) (tag : List ℕ) → Levelled local remote host tag
