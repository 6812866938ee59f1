use Rattle.session_rules.proofs.Examples.{sessions}
use Rattle.session_rules.proofs.worked_sessions.Goals as goal

pub returns : goal.returns
returns c = sessions
