use Rattle.session_rules.proofs.Stores.{run_counts}
use Rattle.session_rules.proofs.a_run_counts_its_faults.Goals as goal

pub returns : goal.returns
returns c = run_counts
