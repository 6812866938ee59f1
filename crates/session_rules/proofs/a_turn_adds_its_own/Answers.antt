use Rattle.session_rules.proofs.Growing.{turn_adds_own}
use Rattle.session_rules.proofs.a_turn_adds_its_own.Goals as goal

pub returns : goal.returns
returns c = turn_adds_own
