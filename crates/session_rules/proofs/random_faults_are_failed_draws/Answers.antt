use Rattle.session_rules.proofs.Telling.{session_draws}
use Rattle.session_rules.proofs.random_faults_are_failed_draws.Goals as goal

pub returns : goal.returns
returns c = session_draws
