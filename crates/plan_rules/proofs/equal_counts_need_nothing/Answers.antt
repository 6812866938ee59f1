use Rattle.plan_rules.proofs.Plans.{equal_counts}
use Rattle.plan_rules.proofs.equal_counts_need_nothing.Goals as goal

pub returns : goal.returns
returns c = equal_counts
