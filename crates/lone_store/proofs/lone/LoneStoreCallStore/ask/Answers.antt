use Rattle.model_words.specs.Seen.{call_seen, reply_seen}
use Rattle.call_supplies.specs.Supplies.{supplies}
use Rattle.lone_store.proofs.LoneLaws.{lone_answers}
use Rattle.lone_store.proofs.lone.LoneStoreCallStore.ask.Goals as goal

pub returns-clause-answers : goal.returns-clause-answers
returns-clause-answers g c =
    lone_answers c.args.self.now.store c.ask.new.self (supplies (g.E.Entropy.entropy c.args.rand.now) (g.C.Clock.clock c.args.clock.now)) (supplies (g.E.Entropy.entropy c.ask.new.rand) (g.C.Clock.clock c.ask.new.clock))
    c.args.number (call_seen c.args.call.now) (reply_seen c.ask.result) c.ask.ensures.told c.ask.ensures.host c.ask.ensures.key

pub returns-clause-within : goal.returns-clause-within
returns-clause-within g c = c.ask.ensures.told.within
