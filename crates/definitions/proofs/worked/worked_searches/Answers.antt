use Rattle.definitions.proofs.Examples.{searches}
use Rattle.definitions.proofs.worked.worked_searches.Goals as goal

pub returns : goal.returns
returns c = searches
