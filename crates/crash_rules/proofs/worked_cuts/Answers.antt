use Rattle.crash_rules.proofs.Cuts.{cuts_worked}
use Rattle.crash_rules.proofs.worked_cuts.Goals as goal

pub returns : goal.returns
returns c = cuts_worked
