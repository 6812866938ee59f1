use Rattle.view_rules.proofs.Sets.{chains_make_views}
use Rattle.view_rules.proofs.view_laws.equal_chains_have_equal_views.Goals as goal

pub returns : goal.returns
returns c = chains_make_views
