use Rattle.record_rules.proofs.InTurn.{growth_is_in_turn}
use Rattle.record_rules.proofs.growth_is_in_turn.Goals as goal

pub returns : goal.returns
returns c = growth_is_in_turn
