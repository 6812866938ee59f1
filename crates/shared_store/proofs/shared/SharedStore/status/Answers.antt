use Rattle.shared_store.proofs.StoreTurns.{status_leaves, status_of}
use Rattle.shared_store.proofs.shared.SharedStore.status.Goals as goal

pub give-requires-clause-leave : goal.give-requires-clause-leave
give-requires-clause-leave g c =
    let asked = c.status-chains in
    status_leaves c.args.pass.now c.take-turn.new.pass c.take-turn.result.book.told c.book.result.now.told asked.new.self (λ i. (c.book.ensures.value i).told) c.take-turn.ensures.out asked.ensures.rests.stays asked.ensures.store
    c.take-turn.ensures.takes

pub returns-clause-turn : goal.returns-clause-turn
returns-clause-turn g c =
    let asked = c.status-chains in
    status_of c.args.pass.now c.take-turn.new.pass c.take-turn.result.book.told c.book.result.now.told asked.new.self (λ i. (c.book.ensures.value i).told) c.take-turn.ensures.out
    asked.result c.args.owner c.give.new.pass.pass asked.ensures.rests.stays asked.ensures.store asked.ensures.answers c.take-turn.ensures.takes c.give.ensures.gives
