use Rattle.world_rules.proofs.Kept.{world_holds, status_tells_chains, status_tells_views}
use Rattle.world_rules.proofs.world_laws.nodes_of_equal_status_are_alike.Goals as goal

pub returns-clause-chains : goal.returns-clause-chains
returns-clause-chains c = λ hosts events w apart reach. status_tells_chains hosts w (world_holds hosts events w apart reach)

pub returns-clause-views : goal.returns-clause-views
returns-clause-views c = λ hosts events w apart reach. status_tells_views hosts w (world_holds hosts events w apart reach)
