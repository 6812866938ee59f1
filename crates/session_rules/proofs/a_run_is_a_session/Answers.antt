use Rattle.session_rules.proofs.Stores.{run_is_session}
use Rattle.session_rules.proofs.a_run_is_a_session.Goals as goal

pub returns : goal.returns
returns c = run_is_session
