use Rattle.record_model.specs.Seen.{caller_seen}
use Rattle.model_words.specs.Seen.{call_seen, reply_seen}
use Rattle.call_supplies.specs.Supplies.{supplies}
use Rattle.store_core.proofs.Turning.{only_asks}
use Rattle.store_core.proofs.store.Store.ask.Goals as goal

pub returns-then-is_read-clause-asks : goal.returns-then-is_read-clause-asks
returns-then-is_read-clause-asks g c =
    only_asks c.args.self.now (supplies (g.E.Entropy.entropy c.args.rand.now) (g.C.Clock.clock c.args.clock.now)) (caller_seen c.args.caller) (call_seen c.args.call.now) (reply_seen c.read.result) c.read.ensures.shows
