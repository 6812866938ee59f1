use Rattle.session_rules.proofs.Sessions.{sessions_follow}
use Rattle.session_rules.proofs.sessions_follow.Goals as goal

pub returns : goal.returns
returns c = sessions_follow
