use Rattle.world_rules.proofs.Kept.{no_forks, status_tells_chains, status_tells_views}
use Rattle.world_rules.proofs.Made.{store_world_made}
use Rattle.world_rules.proofs.Stores.{store_world_holds}
use Rattle.world_rules.proofs.world_laws.stores_never_fork.Goals as goal

pub returns-clause-sound : goal.returns-clause-sound
returns-clause-sound c = λ store hosts events w well apart reach. (store_world_holds store hosts events w well apart reach).sound

pub returns-clause-prefixes : goal.returns-clause-prefixes
returns-clause-prefixes c = λ store hosts events w well apart reach. (store_world_holds store hosts events w well apart reach).prefixes

pub returns-clause-no_strangers : goal.returns-clause-no_strangers
returns-clause-no_strangers c = λ store hosts events w well apart reach. (store_world_holds store hosts events w well apart reach).strangers

pub returns-clause-no_forks : goal.returns-clause-no_forks
returns-clause-no_forks c = λ store hosts events w well apart reach. no_forks hosts w (store_world_holds store hosts events w well apart reach)

pub returns-clause-chains : goal.returns-clause-chains
returns-clause-chains c = λ store hosts events w well apart reach. status_tells_chains hosts w (store_world_holds store hosts events w well apart reach)

pub returns-clause-views : goal.returns-clause-views
returns-clause-views c = λ store hosts events w well apart reach. status_tells_views hosts w (store_world_holds store hosts events w well apart reach)

pub returns-clause-none_of_server : goal.returns-clause-none_of_server
returns-clause-none_of_server c = λ store hosts events w well apart reach. (store_world_made store hosts events w well apart reach).server

pub returns-clause-own_made : goal.returns-clause-own_made
returns-clause-own_made c = λ store hosts events w well apart reach. (store_world_made store hosts events w well apart reach).own
