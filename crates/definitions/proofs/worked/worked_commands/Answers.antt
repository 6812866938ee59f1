use Rattle.definitions.proofs.Examples.{journals}
use Rattle.definitions.proofs.worked.worked_commands.Goals as goal

pub returns : goal.returns
returns c = journals
