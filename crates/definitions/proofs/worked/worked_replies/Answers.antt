use Rattle.definitions.proofs.Examples.{replies_worked}
use Rattle.definitions.proofs.worked.worked_replies.Goals as goal

pub returns : goal.returns
returns c = replies_worked
