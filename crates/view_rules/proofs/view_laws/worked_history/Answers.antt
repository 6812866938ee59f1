use Rattle.view_rules.proofs.Examples.{history}
use Rattle.view_rules.proofs.view_laws.worked_history.Goals as goal

pub returns : goal.returns
returns c = history
