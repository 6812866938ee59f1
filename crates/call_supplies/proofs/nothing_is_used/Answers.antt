use Rattle.call_supplies.proofs.Using.{nothing_used}
use Rattle.call_supplies.proofs.nothing_is_used.Goals as goal

pub returns : goal.returns
returns c = nothing_used
