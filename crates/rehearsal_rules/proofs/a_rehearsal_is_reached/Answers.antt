use Rattle.rehearsal_rules.proofs.Reached.{is_reached}
use Rattle.rehearsal_rules.proofs.a_rehearsal_is_reached.Goals as goal

pub returns : goal.returns
returns c = is_reached
