use Rattle.std.proofs.Common.{List, ap, sym, subst, ◌∙◌}
use Rattle.std.specs.Option.{option_map}
use Rattle.plan_rules.specs.Plans.{PlanStep, plan as plan_of}
use Rattle.record_model.specs.Seen.{chains_seen}
use Rattle.sync_plan.specs.Seen.{steps_seen}
use Rattle.sync_plan.specs.Turns.{first_seen}
use Rattle.sync_plan.proofs.Turns.{Owes, owes_less}
use Rattle.sync_plan.proofs.planning.plan.Goals as goal

pub loop-first-preserved : goal.loop-first-preserved
loop-first-preserved c =
    let all = plan_of (chains_seen c.args.local.now) (chains_seen c.args.remote.now) in
    let ours = chains_seen c.loop-first.ours.now in
    let theirs = chains_seen c.loop-first.theirs.now in
    let first = first_seen c.in-Some.first in
    let is_first = sym c.first_place.ensures ∙ ap (option_map first_seen) c.in-Some.is in
    subst (λ (steps : List PlanStep). Owes steps first.ours first.theirs all) (sym c.in_ok-add_step.ensures) (owes_less (steps_seen c.loop-first.steps.items) all ours theirs first c.loop-first.invariant is_first)
