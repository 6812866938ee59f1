use Rattle.rehearsal_rules.proofs.Shown.{says_equal}
use Rattle.rehearsal_rules.proofs.a_summary_says_equal.Goals as goal

pub returns : goal.returns
returns c = says_equal
