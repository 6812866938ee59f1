use Rattle.session_rules.proofs.Sessions.{session_still}
use Rattle.session_rules.proofs.others_leave_it.Goals as goal

pub returns : goal.returns
returns c = session_still
