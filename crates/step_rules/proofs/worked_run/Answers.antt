use Rattle.step_rules.proofs.Examples.{run}
use Rattle.step_rules.proofs.worked_run.Goals as goal

pub returns : goal.returns
returns c = run
