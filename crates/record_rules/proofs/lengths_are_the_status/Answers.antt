use Rattle.record_rules.proofs.Status.{status_is_determined}
use Rattle.record_rules.proofs.lengths_are_the_status.Goals as goal

pub returns : goal.returns
returns c = status_is_determined
