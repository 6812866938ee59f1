use Rattle.record_rules.proofs.Status.{lengths_make_status}
use Rattle.record_rules.proofs.lengths_make_status.Goals as goal

pub returns : goal.returns
returns c = lengths_make_status
