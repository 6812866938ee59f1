use Rattle.session_rules.proofs.Passes.{moves_then}
use Rattle.session_rules.proofs.moves_follow.Goals as goal

pub returns : goal.returns
returns c = moves_then
