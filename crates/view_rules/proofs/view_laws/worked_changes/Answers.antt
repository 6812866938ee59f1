use Rattle.view_rules.proofs.ViewExamples.{changes}
use Rattle.view_rules.proofs.view_laws.worked_changes.Goals as goal

pub returns : goal.returns
returns c = changes
