use Rattle.plan_rules.proofs.Plans.{counts_make_plan}
use Rattle.plan_rules.proofs.counts_make_the_plan.Goals as goal

pub returns : goal.returns
returns c = counts_make_plan
