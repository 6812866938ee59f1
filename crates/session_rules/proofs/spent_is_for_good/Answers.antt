use Rattle.session_rules.proofs.Passes.{stays_spent}
use Rattle.session_rules.proofs.spent_is_for_good.Goals as goal

pub returns : goal.returns
returns c = stays_spent
