use Rattle.view_rules.proofs.Sets.{set_makes_views}
use Rattle.view_rules.proofs.view_laws.views_depend_on_the_set.Goals as goal

pub returns : goal.returns
returns c = set_makes_views
