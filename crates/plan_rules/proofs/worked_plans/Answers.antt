use Rattle.plan_rules.proofs.Examples.{plans}
use Rattle.plan_rules.proofs.worked_plans.Goals as goal

pub returns : goal.returns
returns c = plans
