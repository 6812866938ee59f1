use Rattle.session_rules.proofs.Examples.{reading}
use Rattle.session_rules.proofs.worked_reading.Goals as goal

pub returns : goal.returns
returns c = reading
