use Rattle.server_routes.proofs.LoneAsking.{lone_page}
use Rattle.server_routes.proofs.lone.LoneStoreServedStore.page.Goals as goal

pub returns : goal.returns
returns g c =
    lone_page c.args.self.now.store c.page.new.self c.page.ensures.host c.page.ensures.key c.args.owner c.args.host c.args.tag.now c.args.start c.args.count c.page.result c.page.ensures.read c.page.ensures.disk c.page.ensures.answers c.page.ensures.failed
