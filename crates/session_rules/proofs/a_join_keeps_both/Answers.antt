use Rattle.session_rules.proofs.Passes.{join_keeps_both}
use Rattle.session_rules.proofs.a_join_keeps_both.Goals as goal

pub returns : goal.returns
returns c = join_keeps_both
