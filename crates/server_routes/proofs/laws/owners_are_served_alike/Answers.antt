use Rattle.server_routes.proofs.Isolation.{serves_alike}
use Rattle.server_routes.proofs.laws.owners_are_served_alike.Goals as goal

pub returns : goal.returns
returns c accounts store other found there caller caller_there request left left_there response response_there settled_here settled_there same one two =
    serves_alike accounts request store other found there caller caller_there left left_there response response_there settled_here settled_there same one two
