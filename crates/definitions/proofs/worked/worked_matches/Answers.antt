use Rattle.definitions.proofs.Examples.{matches}
use Rattle.definitions.proofs.worked.worked_matches.Goals as goal

pub returns : goal.returns
returns c = matches
