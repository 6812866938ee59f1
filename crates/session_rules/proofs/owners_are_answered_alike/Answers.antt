use Rattle.session_rules.proofs.Owners.{answered_alike}
use Rattle.session_rules.proofs.owners_are_answered_alike.Goals as goal

pub returns : goal.returns
returns c = answered_alike
