use Rattle.server_routes.proofs.SharedAsking.{shared_page}
use Rattle.server_routes.proofs.shared.SharedCallerServedStore.page.Goals as goal

pub returns : goal.returns
returns g c = shared_page c.args.self.now.pass.pass c.page.new.pass.pass c.args.self.now.named c.args.owner c.args.host c.args.tag.now c.args.start c.args.count c.page.result c.page.ensures.turn
