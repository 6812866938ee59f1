use Rattle.step_rules.proofs.Examples.{views}
use Rattle.step_rules.proofs.worked_views.Goals as goal

pub returns : goal.returns
returns c = views
