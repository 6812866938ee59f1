use Rattle.record_rules.proofs.Examples.{statuses}
use Rattle.record_rules.proofs.worked_status.Goals as goal

pub returns : goal.returns
returns c = statuses
