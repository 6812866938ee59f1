use Rattle.session_rules.proofs.Growing.{session_grows}
use Rattle.session_rules.proofs.turn_makes_longer.Goals as goal

pub returns : goal.returns
returns c = session_grows
