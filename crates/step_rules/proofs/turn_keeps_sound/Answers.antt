use Rattle.step_rules.proofs.Turns.{Turn-sound}
use Rattle.step_rules.proofs.turn_keeps_sound.Goals as goal

pub returns : goal.returns
returns c = Turn-sound
