use Rattle.step_rules.proofs.Examples.{asked}
use Rattle.step_rules.proofs.worked_asked.Goals as goal

pub returns : goal.returns
returns c = asked
