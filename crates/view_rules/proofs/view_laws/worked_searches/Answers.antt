use Rattle.view_rules.proofs.Examples.{searches}
use Rattle.view_rules.proofs.view_laws.worked_searches.Goals as goal

pub returns : goal.returns
returns c = searches
