use Rattle.record_model.specs.Seen.{caller_seen, records_seen}
use Rattle.store_core.specs.Pages.{page_answer_seen}
use Rattle.store_core.proofs.PageTurns.{takes_behind, stays_unsettled}
use Rattle.step_rules.specs.Turn.{settled}
use Rattle.store_core.proofs.store.Store.take_page.Goals as goal

pub returns-in-Err-clause-takes : goal.returns-in-Err-clause-takes
returns-in-Err-clause-takes g c = stays_unsettled (caller_seen c.args.caller) c.args.owner (records_seen c.args.page.now) c.args.self.now c.settle.new.self c.in-Err.ensures.settles

pub take_settled-requires-clause-means : goal.take_settled-requires-clause-means
take_settled-requires-clause-means g c = (settled c.requires.0 c.requires.1, (c.in-Ok.ensures.settles c.requires.0 c.requires.1 c.requires.2).0)

pub returns-clause-takes : goal.returns-clause-takes
returns-clause-takes g c =
    takes_behind (caller_seen c.args.caller) c.args.owner (records_seen c.args.page.now) c.args.self.now c.settle.new.self c.take_settled.new.self (page_answer_seen c.take_settled.result) c.settle.ensures.host c.in-Ok.ensures.settles c.take_settled.ensures.takes
