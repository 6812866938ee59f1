use Rattle.step_rules.proofs.Turns.{Turn-leaves}
use Rattle.step_rules.proofs.turn_only_adds.Goals as goal

pub returns : goal.returns
returns c = λ store journal doubt caller call used after doubt_after reply turn. let left = Turn-leaves store journal doubt caller call used after doubt_after reply turn in (left.added, left.after_is)
