use Rattle.step_rules.proofs.Examples.{a_store}
use Rattle.step_rules.proofs.worked_store.Goals as goal

pub returns : goal.returns
returns c = a_store
