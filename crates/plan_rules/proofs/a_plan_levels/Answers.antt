use Rattle.plan_rules.proofs.Plans.{plan_levels}
use Rattle.plan_rules.proofs.a_plan_levels.Goals as goal

pub returns : goal.returns
returns c = plan_levels
