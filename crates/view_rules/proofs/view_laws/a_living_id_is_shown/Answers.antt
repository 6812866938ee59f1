use Rattle.view_rules.proofs.Standings.{living}
use Rattle.view_rules.proofs.view_laws.a_living_id_is_shown.Goals as goal

pub returns : goal.returns
returns c = living
