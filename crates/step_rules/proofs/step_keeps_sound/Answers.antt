use Rattle.step_rules.proofs.Steps.{Step-sound}
use Rattle.step_rules.proofs.step_keeps_sound.Goals as goal

pub returns : goal.returns
returns c = Step-sound
