use Rattle.definitions.proofs.Examples.{texts}
use Rattle.definitions.proofs.worked.worked_texts.Goals as goal

pub returns : goal.returns
returns c = texts
