use Rattle.record_model.specs.Seen.{records_seen}
use Rattle.store_core.specs.Pages.{page_answer_seen}
use Rattle.server_routes.proofs.LoneAsking.{lone_page_taken}
use Rattle.server_routes.proofs.lone.LoneStoreServedStore.take_page.Goals as goal

pub returns : goal.returns
returns g c = lone_page_taken c.args.self.now.store c.take_page.new.self c.take_page.ensures.host c.take_page.ensures.key c.args.number c.args.owner (records_seen c.args.page.now) (page_answer_seen c.take_page.result) c.take_page.ensures.told
