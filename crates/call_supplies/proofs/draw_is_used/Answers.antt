use Rattle.call_supplies.proofs.Using.{read_then_drew}
use Rattle.call_supplies.proofs.draw_is_used.Goals as goal

pub returns : goal.returns
returns c = read_then_drew
