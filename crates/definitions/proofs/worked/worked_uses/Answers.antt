use Rattle.definitions.proofs.Examples.{runs}
use Rattle.definitions.proofs.worked.worked_uses.Goals as goal

pub returns : goal.returns
returns c = runs
