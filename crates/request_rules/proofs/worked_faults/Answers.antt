use Rattle.request_rules.proofs.Examples.{faults}
use Rattle.request_rules.proofs.worked_faults.Goals as goal

pub returns : goal.returns
returns c = faults
