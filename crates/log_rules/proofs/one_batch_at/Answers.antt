use Rattle.log_rules.proofs.Spots.{one_batch_at}
use Rattle.log_rules.proofs.one_batch_at.Goals as goal

pub returns : goal.returns
returns c = one_batch_at
