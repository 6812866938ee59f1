use Rattle.plan_rules.proofs.Plans.{steps_are_plan}
use Rattle.plan_rules.proofs.such_steps_are_the_plan.Goals as goal

pub returns : goal.returns
returns c = steps_are_plan
