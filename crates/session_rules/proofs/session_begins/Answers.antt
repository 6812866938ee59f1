use Rattle.session_rules.proofs.Sessions.{session_begins}
use Rattle.session_rules.proofs.session_begins.Goals as goal

pub returns : goal.returns
returns c = session_begins
