use Rattle.rehearsal_rules.proofs.Examples.{rehearsal}
use Rattle.rehearsal_rules.proofs.worked_rehearsal.Goals as goal

pub returns : goal.returns
returns c = rehearsal
