use Rattle.step_rules.proofs.Steps.{Step-read}
use Rattle.step_rules.proofs.read_leaves.Goals as goal

pub returns : goal.returns
returns c = λ store journal caller call used after answer reads step. Step-read store journal caller call used after answer reads step
