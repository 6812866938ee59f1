use Rattle.record_rules.proofs.Examples.{limits}
use Rattle.record_rules.proofs.worked_limits.Goals as goal

pub returns : goal.returns
returns c = limits
