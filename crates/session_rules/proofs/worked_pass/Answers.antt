use Rattle.session_rules.proofs.Examples.{pass}
use Rattle.session_rules.proofs.worked_pass.Goals as goal

pub returns : goal.returns
returns c = pass
