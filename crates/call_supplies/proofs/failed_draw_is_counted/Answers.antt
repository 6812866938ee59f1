use Rattle.call_supplies.proofs.Using.{read_then_failed}
use Rattle.call_supplies.proofs.failed_draw_is_counted.Goals as goal

pub returns : goal.returns
returns c = read_then_failed
