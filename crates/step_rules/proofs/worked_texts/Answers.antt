use Rattle.step_rules.proofs.Examples.{texts}
use Rattle.step_rules.proofs.worked_texts.Goals as goal

pub returns : goal.returns
returns c = texts
