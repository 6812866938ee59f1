use Rattle.payload_rules.proofs.Examples.{items}
use Rattle.payload_rules.proofs.payload_laws.worked_items.Goals as goal

pub returns : goal.returns
returns c = items
