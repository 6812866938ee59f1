use Rattle.session_rules.proofs.Sessions.{points_follow}
use Rattle.session_rules.proofs.points_follow.Goals as goal

pub returns : goal.returns
returns c = points_follow
