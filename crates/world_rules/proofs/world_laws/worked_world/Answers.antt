use Rattle.world_rules.proofs.Examples.{worked_world}
use Rattle.world_rules.proofs.world_laws.worked_world.Goals as goal

pub returns : goal.returns
returns c = worked_world
