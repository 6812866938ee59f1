use Rattle.server_routes.proofs.Isolation.{serves_alone}
use Rattle.server_routes.proofs.laws.a_store_alone_serves.Goals as goal

pub returns : goal.returns
returns c = serves_alone
