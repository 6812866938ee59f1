use Rattle.std.proofs.Common.{arith}
use Rattle.record_model.specs.Seen.{caller_seen}
use Rattle.model_words.specs.Seen.{call_seen, reply_seen}
use Rattle.call_supplies.specs.Supplies.{supplies}
use Rattle.shared_store.proofs.StoreTurns.{ask_leaves, call_of}
use Rattle.shared_store.proofs.shared.SharedStore.ask.Goals as goal

pub give-requires-clause-leave : goal.give-requires-clause-leave
give-requires-clause-leave g c =
    let asked = c.ask-reply in
    ask_leaves c.args.pass.now c.take-turn.new.pass c.take-turn.result.book.told c.book.result.now.told asked.new.self (λ i. (c.book.ensures.value i).told) c.take-turn.ensures.out c.args.call_number (caller_seen c.caller_by-caller.result) c.caller_by-caller.ensures asked.ensures.host asked.ensures.key
    (supplies (g.E.Entropy.entropy c.args.rand.now) (g.C.Clock.clock c.args.clock.now)) (supplies (g.E.Entropy.entropy asked.new.rand) (g.C.Clock.clock asked.new.clock)) (call_seen c.args.call.now) (reply_seen asked.result) asked.ensures.told (omega arith)

pub returns-clause-turn : goal.returns-clause-turn
returns-clause-turn g c =
    let asked = c.ask-reply in
    call_of c.args.pass.now c.take-turn.new.pass c.take-turn.result.book.told c.book.result.now.told asked.new.self (λ i. (c.book.ensures.value i).told) c.take-turn.ensures.out c.args.call_number (caller_seen c.caller_by-caller.result) c.caller_by-caller.ensures asked.ensures.host asked.ensures.key
    (supplies (g.E.Entropy.entropy c.args.rand.now) (g.C.Clock.clock c.args.clock.now)) (supplies (g.E.Entropy.entropy asked.new.rand) (g.C.Clock.clock asked.new.clock)) (call_seen c.args.call.now) (reply_seen asked.result) asked.ensures.told
    c.give.new.pass.pass c.take-turn.ensures.takes c.give.ensures.gives
