use Rattle.server_routes.proofs.Isolation.{keeps_others}
use Rattle.server_routes.proofs.laws.owners_keep_what_they_hold.Goals as goal

pub returns : goal.returns
returns c accounts store found caller request left response other serves differ = keeps_others accounts request store found caller left response other serves differ
