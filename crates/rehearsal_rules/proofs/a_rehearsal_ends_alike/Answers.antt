use Rattle.rehearsal_rules.proofs.Alike.{end_alike}
use Rattle.rehearsal_rules.proofs.a_rehearsal_ends_alike.Goals as goal

pub returns : goal.returns
returns c = end_alike
