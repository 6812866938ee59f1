use Rattle.log_rules.proofs.Digests.{digests}
use Rattle.log_rules.proofs.worked_digests.Goals as goal

pub returns : goal.returns
returns c = digests
