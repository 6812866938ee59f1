use Rattle.log_rules.proofs.ContentExamples.{contents_worked}
use Rattle.log_rules.proofs.worked_contents.Goals as goal

pub returns : goal.returns
returns c = contents_worked
