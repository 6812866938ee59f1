use Rattle.request_rules.proofs.Examples.{calls}
use Rattle.request_rules.proofs.worked_calls.Goals as goal

pub returns : goal.returns
returns c = calls
