use Rattle.rehearsal_rules.proofs.Examples.{run}
use Rattle.rehearsal_rules.proofs.worked_run.Goals as goal

pub returns : goal.returns
returns c = run
