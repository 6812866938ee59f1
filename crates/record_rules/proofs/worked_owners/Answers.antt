use Rattle.record_rules.proofs.Examples.{owners}
use Rattle.record_rules.proofs.worked_owners.Goals as goal

pub returns : goal.returns
returns c = owners
