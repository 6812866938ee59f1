use Rattle.std.proofs.Common.{◌<◌, ◌^◌, ℕ, List, sym, ap, subst, ◌∙◌, arith}
use Rattle.definitions.specs.Uses.{read_clock}
use Rattle.definitions.proofs.Counts.{Rose-later}
use Rattle.at_edge.specs.Telling.{Told}
use Rattle.record_model.specs.Seen.{caller_seen}
use Rattle.model_words.specs.Seen.{call_seen, result_seen, reply_seen}
use Rattle.step_rules.specs.Turn.{settled}
use Rattle.call_supplies.proofs.Using.{only_read, with_readings}
use Rattle.store_core.proofs.Turning.{unsettled_asks, settled_asks}
use Rattle.store_core.proofs.store.Store.write.Goals as goal

pub write_settled-answered-requires-clause-means : goal.write_settled-answered-requires-clause-means
write_settled-answered-requires-clause-means g c =
    let now = c.in-Ok.ensures.settles c.requires.means.0 c.requires.means.1 c.requires.means.2 in
    (settled c.requires.means.0 c.requires.means.1, now.0)

pub returns-in-Ok-clause-asks : goal.returns-in-Ok-clause-asks
returns-in-Ok-clause-asks g c =
    let written = c.write_settled-answered.ensures.writes in (
      written.used,
      with_readings (g.E.Entropy.entropy c.args.rand.now) (g.E.Entropy.entropy c.write_settled-answered.new.rand) (g.C.Clock.clock c.args.clock.now) (g.C.Clock.clock c.now-now.new.self) written.used written.random
          (subst (λ (rs : List ℕ). Told (g.C.Clock.clock c.args.clock.now) (g.C.Clock.clock c.now-now.new.self) rs) (sym written.reading) c.now-now.ensures),
      settled_asks c.args.self.now c.write_settled-answered.new.self (caller_seen c.args.caller) (call_seen c.args.call.now) (reply_seen c.reply.result) c.requires.asks c.settle.new.self written.used (result_seen c.write_settled-answered.result)
          c.settle.ensures.key c.settle.ensures.host c.in-Ok.ensures.settles written.writes c.reply.ensures.front,
    )

pub returns-in-Ok-clause-told : goal.returns-in-Ok-clause-told
returns-in-Ok-clause-told g c = λ told.
    Rose-later c.args.self.now.log.disk.faults c.settle.new.self.log.disk.faults c.write_settled-answered.new.self.log.disk.faults c.settle.ensures.kept
    (c.write_settled-answered.ensures.told (sym (ap result_seen c.reply.ensures.answer) ∙ told))

pub returns-in-Err-clause-asks : goal.returns-in-Err-clause-asks
returns-in-Err-clause-asks g c =
    let below : c.now-now.result < 2 ^ 64 = omega arith in (
      read_clock c.now-now.result,
      with_readings (g.E.Entropy.entropy c.args.rand.now) (g.E.Entropy.entropy c.args.rand.now) (g.C.Clock.clock c.args.clock.now) (g.C.Clock.clock c.now-now.new.self) (read_clock c.now-now.result) (only_read (g.E.Entropy.entropy c.args.rand.now) c.now-now.result below) c.now-now.ensures,
      unsettled_asks c.args.self.now c.settle.new.self (caller_seen c.args.caller) (call_seen c.args.call.now) (reply_seen c.reply-in-Err.result) c.requires.asks c.now-now.result c.in-Err.ensures.settles c.reply-in-Err.ensures.front,
    )
