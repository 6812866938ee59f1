use Rattle.session_rules.proofs.Turns.{turns_follow}
use Rattle.session_rules.proofs.turns_follow.Goals as goal

pub returns : goal.returns
returns c = turns_follow
