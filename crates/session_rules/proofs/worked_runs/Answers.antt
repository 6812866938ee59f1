use Rattle.session_rules.proofs.Examples.{runs}
use Rattle.session_rules.proofs.worked_runs.Goals as goal

pub returns : goal.returns
returns c = runs
