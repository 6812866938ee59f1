use Rattle.step_rules.proofs.Steps.{Step-adds}
use Rattle.step_rules.proofs.step_adds_one.Goals as goal

pub returns : goal.returns
returns c = λ store journal caller call used after answer step. let adds = Step-adds store journal caller call used after answer step in (adds.added, adds.after_is, adds.few, adds.of_caller)
