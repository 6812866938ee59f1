use Rattle.payload_rules.proofs.Examples.{creation}
use Rattle.payload_rules.proofs.payload_laws.worked_creation.Goals as goal

pub returns : goal.returns
returns c = creation
