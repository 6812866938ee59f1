use Rattle.definitions.proofs.Examples.{ids}
use Rattle.definitions.proofs.worked.worked_ids.Goals as goal

pub returns : goal.returns
returns c = ids
