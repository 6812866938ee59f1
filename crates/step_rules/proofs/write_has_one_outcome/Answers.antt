use Rattle.step_rules.proofs.Outcomes.{Step-one}
use Rattle.step_rules.proofs.write_has_one_outcome.Goals as goal

pub returns : goal.returns
returns c = Step-one
