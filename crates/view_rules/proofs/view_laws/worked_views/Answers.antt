use Rattle.view_rules.proofs.ViewExamples.{views}
use Rattle.view_rules.proofs.view_laws.worked_views.Goals as goal

pub returns : goal.returns
returns c = views
