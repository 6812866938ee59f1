use Rattle.definitions.proofs.Examples.{arrays}
use Rattle.definitions.proofs.worked.worked_arrays.Goals as goal

pub returns : goal.returns
returns c = arrays
