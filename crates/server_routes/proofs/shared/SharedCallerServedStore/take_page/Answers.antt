use Rattle.record_model.specs.Seen.{records_seen}
use Rattle.store_core.specs.Pages.{page_answer_seen}
use Rattle.server_routes.proofs.SharedAsking.{shared_page_taken}
use Rattle.server_routes.proofs.shared.SharedCallerServedStore.take_page.Goals as goal

pub returns : goal.returns
returns g c = shared_page_taken c.args.self.now.pass.pass c.take_page.new.pass.pass c.args.self.now.named c.args.number c.args.owner (records_seen c.args.page.now) (page_answer_seen c.take_page.result) c.take_page.ensures.turn
