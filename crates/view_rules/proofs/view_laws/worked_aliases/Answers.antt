use Rattle.view_rules.proofs.Examples.{aliases}
use Rattle.view_rules.proofs.view_laws.worked_aliases.Goals as goal

pub returns : goal.returns
returns c = aliases
