use Rattle.plan_rules.proofs.Plans.{plan_ascends}
use Rattle.plan_rules.proofs.a_plan_ascends.Goals as goal

pub returns : goal.returns
returns c = plan_ascends
