use Rattle.definitions.proofs.Examples.{integers}
use Rattle.definitions.proofs.worked.worked_integers.Goals as goal

pub returns : goal.returns
returns c = integers
