use Rattle.session_crashes.proofs.Runs.{of_run_between}
use Rattle.session_crashes.proofs.run_is_between.Goals as goal

pub returns : goal.returns
returns c = of_run_between
