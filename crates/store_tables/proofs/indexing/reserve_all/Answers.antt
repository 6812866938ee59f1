use Rattle.std.proofs.Common.{List, take, subst}
use Rattle.std.specs.Prelude.{All}
use Rattle.std.proofs.lemmas.List.{take_all}
use Rattle.std.proofs.lemmas.List.Elements.{All-more, All-map, All-weaker}
use Rattle.record_model.specs.declared.entries.Event.{Event}
use Rattle.record_model.specs.Seen.{event_seen}
use Rattle.store_tables.specs.Entries.{IsReadyFor}
use Rattle.store_tables.proofs.Adding.{ready_kept}
use Rattle.store_tables.proofs.indexing.reserve_all.Goals as goal

pub loop-event-preserved : goal.loop-event-preserved
loop-event-preserved c =
    record {
      ready = All-more (λ (e : Event). IsReadyFor c.reserve_one.new.index (event_seen e)) c.args.events.now c.loop-event.event-index c.event-item.result c.loop-event-test.true
          (All-weaker (λ (e : Event). IsReadyFor c.loop-event.index (event_seen e)) (λ (e : Event). IsReadyFor c.reserve_one.new.index (event_seen e)) (λ e ready. ready_kept c.loop-event.index c.reserve_one.new.index c.reserve_one.ensures.rooms (event_seen e) ready)
          (take c.loop-event.event-index c.args.events.now) c.loop-event.invariant.ready)
          (subst (λ (e : Event). IsReadyFor c.reserve_one.new.index (event_seen e)) c.event-item.is c.in_ok-reserve_one.ensures.ready);
      same = λ filed is. c.reserve_one.ensures.same filed (c.loop-event.invariant.same filed is);
      rooms = λ owner r ready. c.reserve_one.ensures.rooms owner r (c.loop-event.invariant.rooms owner r ready);
    }

pub returns-clause-ready : goal.returns-clause-ready
returns-clause-ready c =
    All-map (IsReadyFor c.loop-event.index) event_seen c.args.events.now
    (subst (λ (es : List Event). All (λ e. IsReadyFor c.loop-event.index (event_seen e)) es) (take_all c.loop-event.event-index c.args.events.now c.loop-event-test.false) c.loop-event.invariant.ready)
