use Rattle.record_rules.proofs.Examples.{runs}
use Rattle.record_rules.proofs.worked_running.Goals as goal

pub returns : goal.returns
returns c = runs
