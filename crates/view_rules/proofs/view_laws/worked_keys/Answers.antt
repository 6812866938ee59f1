use Rattle.view_rules.proofs.Examples.{keys}
use Rattle.view_rules.proofs.view_laws.worked_keys.Goals as goal

pub returns : goal.returns
returns c = keys
