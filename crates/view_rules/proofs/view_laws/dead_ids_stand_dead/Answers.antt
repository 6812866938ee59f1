use Rattle.view_rules.proofs.Standings.{dead_to, dead_from}
use Rattle.view_rules.proofs.view_laws.dead_ids_stand_dead.Goals as goal

pub returns : goal.returns
returns c = λ changes id. (dead_from changes id, dead_to changes id)
