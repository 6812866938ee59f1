use Rattle.call_supplies.proofs.Using.{with_readings}
use Rattle.call_supplies.proofs.readings_join_draws.Goals as goal

pub returns : goal.returns
returns c = with_readings
