use Rattle.step_rules.proofs.Examples.{doubt}
use Rattle.step_rules.proofs.worked_doubt.Goals as goal

pub returns : goal.returns
returns c = doubt
