use Rattle.log_rules.proofs.Spots.{longer_keeps_batch}
use Rattle.log_rules.proofs.longer_keeps_batch.Goals as goal

pub returns : goal.returns
returns c = longer_keeps_batch
