use Rattle.world_rules.proofs.Examples.{worked_twins}
use Rattle.world_rules.proofs.world_laws.worked_twins.Goals as goal

pub returns : goal.returns
returns c = worked_twins
