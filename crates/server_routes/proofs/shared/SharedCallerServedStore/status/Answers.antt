use Rattle.server_routes.proofs.SharedAsking.{shared_status}
use Rattle.server_routes.proofs.shared.SharedCallerServedStore.status.Goals as goal

pub returns : goal.returns
returns g c = shared_status c.args.self.now.pass.pass c.status.new.pass.pass c.args.self.now.named c.args.owner c.status.result c.status.ensures.turn
