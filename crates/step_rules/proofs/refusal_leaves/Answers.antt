use Rattle.std.proofs.Common.{refl}
use Rattle.step_rules.specs.Answers.{refused}
use Rattle.step_rules.proofs.Steps.{Step-refused}
use Rattle.step_rules.proofs.refusal_leaves.Goals as goal

pub returns : goal.returns
returns c = λ store journal caller call used after refusal step. Step-refused store journal caller call used after (refused refusal) refl step
