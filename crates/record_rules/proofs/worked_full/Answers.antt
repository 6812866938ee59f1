use Rattle.record_rules.proofs.Examples.{full_owner}
use Rattle.record_rules.proofs.worked_full.Goals as goal

pub returns : goal.returns
returns c = full_owner
