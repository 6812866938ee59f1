use Rattle.rehearsal_rules.proofs.Alike.{end_with_all}
use Rattle.rehearsal_rules.proofs.a_rehearsal_ends_with_all.Goals as goal

pub returns : goal.returns
returns c = end_with_all
