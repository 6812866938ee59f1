use Rattle.step_rules.proofs.Answering.{step_has_one}
use Rattle.step_rules.proofs.step_has_one_outcome.Goals as goal

pub returns : goal.returns
returns c = step_has_one
