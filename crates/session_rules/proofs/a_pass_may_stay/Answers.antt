use Rattle.session_rules.proofs.Passes.{stays}
use Rattle.session_rules.proofs.a_pass_may_stay.Goals as goal

pub returns : goal.returns
returns c = stays
