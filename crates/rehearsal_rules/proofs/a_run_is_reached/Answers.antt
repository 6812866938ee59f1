use Rattle.rehearsal_rules.proofs.Running.{runs_are_reached}
use Rattle.rehearsal_rules.proofs.a_run_is_reached.Goals as goal

pub returns : goal.returns
returns c = runs_are_reached
