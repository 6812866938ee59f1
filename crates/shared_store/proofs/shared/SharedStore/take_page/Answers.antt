use Rattle.std.proofs.Common.{arith}
use Rattle.record_model.specs.Seen.{caller_seen, records_seen}
use Rattle.store_core.specs.Pages.{page_answer_seen}
use Rattle.shared_store.proofs.StoreTurns.{page_leaves, page_of}
use Rattle.shared_store.proofs.shared.SharedStore.take_page.Goals as goal

pub give-requires-clause-leave : goal.give-requires-clause-leave
give-requires-clause-leave g c =
    let asked = c.take_page-taken in
    page_leaves c.args.pass.now c.take-turn.new.pass c.take-turn.result.book.told c.book.result.now.told asked.new.self.told (λ i. (c.book.ensures.value i).told) c.take-turn.ensures.out c.args.call_number (caller_seen c.caller_by-caller.result) c.caller_by-caller.ensures asked.ensures.host asked.ensures.key
    c.args.owner (records_seen c.args.page.now) (page_answer_seen asked.result.0) asked.ensures.told (let counted = asked.ensures.counted in omega (arith, counted))

pub returns-clause-turn : goal.returns-clause-turn
returns-clause-turn g c =
    let asked = c.take_page-taken in
    page_of c.args.pass.now c.take-turn.new.pass c.take-turn.result.book.told c.book.result.now.told asked.new.self.told (λ i. (c.book.ensures.value i).told) c.take-turn.ensures.out c.args.call_number (caller_seen c.caller_by-caller.result) c.caller_by-caller.ensures asked.ensures.host asked.ensures.key
    c.args.owner (records_seen c.args.page.now) (page_answer_seen asked.result.0) asked.ensures.told c.give.new.pass.pass c.take-turn.ensures.takes c.give.ensures.gives
