use Rattle.session_crashes.proofs.Runs.{run_ends}
use Rattle.session_crashes.proofs.run_ends_with_its_store.Goals as goal

pub returns : goal.returns
returns c = run_ends
