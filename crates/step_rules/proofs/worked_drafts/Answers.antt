use Rattle.step_rules.proofs.Examples.{drafts}
use Rattle.step_rules.proofs.worked_drafts.Goals as goal

pub returns : goal.returns
returns c = drafts
