use Rattle.shared_store.proofs.StoreTurns.{read_leaves, page_read_in}
use Rattle.shared_store.proofs.shared.SharedStore.page.Goals as goal

pub give-requires-clause-leave : goal.give-requires-clause-leave
give-requires-clause-leave g c =
    let asked = c.page-records in
    read_leaves c.args.pass.now c.take-turn.new.pass c.take-turn.result.book.told c.book.result.now.told asked.new.self (λ i. (c.book.ensures.value i).told) c.take-turn.ensures.out asked.ensures.read asked.ensures.host asked.ensures.key
    c.take-turn.ensures.takes

pub returns-clause-turn : goal.returns-clause-turn
returns-clause-turn g c =
    let asked = c.page-records in
    page_read_in c.args.pass.now c.take-turn.new.pass c.take-turn.result.book.told c.book.result.now.told asked.new.self (λ i. (c.book.ensures.value i).told) c.take-turn.ensures.out asked.ensures.read asked.ensures.host asked.ensures.key
    asked.result c.give.new.pass.pass asked.ensures.failed c.take-turn.ensures.takes c.give.ensures.gives
