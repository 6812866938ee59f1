use Rattle.definitions.proofs.Examples.{streams}
use Rattle.definitions.proofs.worked.worked_streams.Goals as goal

pub returns : goal.returns
returns c = streams
