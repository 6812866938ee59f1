use Rattle.plan_rules.proofs.Plans.{plan_has_each}
use Rattle.plan_rules.proofs.a_plan_has_each_step.Goals as goal

pub returns : goal.returns
returns c = plan_has_each
