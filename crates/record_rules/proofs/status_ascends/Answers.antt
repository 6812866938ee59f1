use Rattle.record_rules.proofs.Status.{status_ascends}
use Rattle.record_rules.proofs.status_ascends.Goals as goal

pub returns : goal.returns
returns c = status_ascends
