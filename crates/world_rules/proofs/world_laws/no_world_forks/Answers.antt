use Rattle.world_rules.proofs.Kept.{world_holds, no_forks}
use Rattle.world_rules.proofs.Made.{world_made}
use Rattle.world_rules.proofs.world_laws.no_world_forks.Goals as goal

pub returns-clause-sound : goal.returns-clause-sound
returns-clause-sound c = λ hosts events w apart reach. (world_holds hosts events w apart reach).sound

pub returns-clause-prefixes : goal.returns-clause-prefixes
returns-clause-prefixes c = λ hosts events w apart reach. (world_holds hosts events w apart reach).prefixes

pub returns-clause-no_strangers : goal.returns-clause-no_strangers
returns-clause-no_strangers c = λ hosts events w apart reach. (world_holds hosts events w apart reach).strangers

pub returns-clause-no_forks : goal.returns-clause-no_forks
returns-clause-no_forks c = λ hosts events w apart reach. no_forks hosts w (world_holds hosts events w apart reach)

pub returns-clause-none_of_server : goal.returns-clause-none_of_server
returns-clause-none_of_server c = λ hosts events w apart reach. (world_made hosts events w apart reach).server

pub returns-clause-own_made : goal.returns-clause-own_made
returns-clause-own_made c = λ hosts events w apart reach. (world_made hosts events w apart reach).own
