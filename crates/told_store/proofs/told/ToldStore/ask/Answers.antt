use Rattle.std.proofs.Common.{sym, subst, None}
use Rattle.std.specs.Prelude.{◌≢◌}
use Rattle.record_model.specs.Seen.{caller_seen}
use Rattle.model_words.specs.Seen.{call_seen, reply_seen}
use Rattle.call_supplies.specs.Supplies.{supplies}
use Rattle.told_store.specs.Told.{ToldSeen}
use Rattle.told_store.proofs.Telling.{call_note_of}
use Rattle.told_store.proofs.told.ToldStore.ask.Goals as goal

pub chosen-noted-requires : goal.chosen-noted-requires
chosen-noted-requires g c =
    let asked = c.ask-reply in
    call_note_of c.of-store_was.result.value c.self.inside.store c.self.inside.noted.note asked.new.self
    (supplies (g.E.Entropy.entropy c.of-rand_was.result.value) (g.C.Clock.clock c.of-clock_was.result.value)) (supplies (g.E.Entropy.entropy c.args.rand.now) (g.C.Clock.clock c.args.clock.now)) (supplies (g.E.Entropy.entropy asked.new.rand) (g.C.Clock.clock asked.new.clock))
    (caller_seen c.args.caller) (call_seen c.args.call.now) (reply_seen asked.result) c.of-store_was.ensures (λ i. supplies (g.E.Entropy.entropy (c.of-rand_was.ensures i)) (g.C.Clock.clock (c.of-clock_was.ensures i)))
    (subst (λ (t : ToldSeen). t.store.key ≢ None) (sym c.self.view_is) c.requires.key) c.requires.fits c.self.invariant asked.ensures.asks asked.ensures.told asked.ensures.kept asked.ensures.host
