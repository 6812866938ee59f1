use Rattle.step_rules.proofs.Turns.{Turn-leaves}
use Rattle.step_rules.proofs.turn_tells_front.Goals as goal

pub returns : goal.returns
returns c = λ store journal doubt caller call used after doubt_after reply turn. (Turn-leaves store journal doubt caller call used after doubt_after reply turn).front_is
