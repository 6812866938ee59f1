use Rattle.step_rules.proofs.Steps.{Step-sound}
use Rattle.step_rules.proofs.step_numbers_chains.Goals as goal

pub returns : goal.returns
returns c = λ store journal caller call used after answer well asked sound step. (Step-sound store journal caller call used after answer well asked sound step).numbered
