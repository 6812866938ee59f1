use Rattle.view_rules.proofs.ListExamples.{lists}
use Rattle.view_rules.proofs.view_laws.worked_lists.Goals as goal

pub returns : goal.returns
returns c = lists
