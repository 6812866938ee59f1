use Rattle.session_rules.proofs.Stores.{runs_leave_one}
use Rattle.session_rules.proofs.a_run_leaves_one_store.Goals as goal

pub returns : goal.returns
returns c = runs_leave_one
