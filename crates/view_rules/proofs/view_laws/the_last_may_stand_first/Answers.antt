use Rattle.view_rules.proofs.Sets.{stands_first}
use Rattle.view_rules.proofs.view_laws.the_last_may_stand_first.Goals as goal

pub returns : goal.returns
returns c = stands_first
