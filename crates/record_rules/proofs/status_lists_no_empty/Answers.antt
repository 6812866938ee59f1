use Rattle.record_rules.proofs.Status.{status_positive}
use Rattle.record_rules.proofs.status_lists_no_empty.Goals as goal

pub returns : goal.returns
returns c = status_positive
