use Rattle.server_routes.proofs.LoneAsking.{lone_status}
use Rattle.server_routes.proofs.lone.LoneStoreServedStore.status.Goals as goal

pub returns : goal.returns
returns g c = lone_status c.args.self.now.store c.status.new.self c.args.owner c.status.result c.status.ensures.rests c.status.ensures.store c.status.ensures.answers
