use Rattle.definitions.proofs.Examples.{no_items}
use Rattle.definitions.proofs.worked.worked_no_items.Goals as goal

pub returns : goal.returns
returns c = no_items
