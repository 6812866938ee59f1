use Rattle.record_rules.proofs.Examples.{hundred}
use Rattle.record_rules.proofs.worked_hundred.Goals as goal

pub returns : goal.returns
returns c = hundred
