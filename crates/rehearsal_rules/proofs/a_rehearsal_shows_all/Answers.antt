use Rattle.rehearsal_rules.proofs.Shown.{show_all}
use Rattle.rehearsal_rules.proofs.a_rehearsal_shows_all.Goals as goal

pub returns : goal.returns
returns c = show_all
