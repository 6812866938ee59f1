use Rattle.call_supplies.proofs.Using.{only_read}
use Rattle.call_supplies.proofs.reading_draws_nothing.Goals as goal

pub returns : goal.returns
returns c = only_read
