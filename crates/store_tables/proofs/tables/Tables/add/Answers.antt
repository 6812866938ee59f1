use Rattle.std.proofs.Common.{◌≡◌, ◌++◌, List, length, sym, subst, ◌∙◌}
use Rattle.std.proofs.lemmas.List.{length-map}
use Rattle.std.specs.Vec.Iter.{into_iter_items}
use Rattle.record_model.specs.declared.entries.Event as model
use Rattle.record_model.specs.Seen.{caller_seen, event_seen, events_seen}
use Rattle.store_tables.specs.Tables.{filed_batch}
use Rattle.store_tables.proofs.Batches.{AddsOn, begins, next_on, may_add_next, goes_on, ends}
use Rattle.store_tables.proofs.tables.Tables.add.Goals as goal

pub loop-event-init : goal.loop-event-init
loop-event-init c = λ host key filed may.
    let all = events_seen c.args.batch.events.items in
    let taken : into_iter_items c.into_iter-event-iterator.result ≡ c.args.batch.events.items = c.into_iter-event-iterator.ensures.into_iter_gives.0 in
    let used = c.into_iter-rooms.ensures.rest in
    subst (λ (es : List model.Event). AddsOn host key filed (caller_seen c.args.batch.caller) c.args.spot (events_seen c.args.batch.events.items) c.args.self.now 0 (events_seen es) (into_iter_items c.into_iter-rooms.result)) (sym taken)
    (subst (λ (rs : List _). AddsOn host key filed (caller_seen c.args.batch.caller) c.args.spot (events_seen c.args.batch.events.items) c.args.self.now 0 (events_seen c.args.batch.events.items) rs) (sym used)
    (begins host key filed (caller_seen c.args.batch.caller) c.args.spot all may.sound c.args.self.now c.args.batch.rooms.items may.is may.ready.entries may.ready.rooms))

pub add_one-requires : goal.add_one-requires
add_one-requires c =
    let host = c.requires.0 in
    let key = c.requires.1 in
    let filed = c.requires.2 in
    let may = c.requires.3 in
    let on = next_on c.requires.0 c.requires.1 c.requires.2 (caller_seen c.args.batch.caller) c.args.spot (events_seen c.args.batch.events.items) may.sound c.loop-event.self c.loop-event.at (into_iter_items c.loop-event.event-iterator) (into_iter_items c.next.new.self) c.in-Some.event (into_iter_items c.loop-event.rooms) (into_iter_items c.next-in-loop-event.new.self) c.in-Some-next.room c.in-Some.ensures.steps.0 c.in-Some-next.ensures.cases.0
    (c.loop-event.invariant c.requires.0 c.requires.1 c.requires.2 c.requires.3) in
    (host, key, filed ++ filed_batch (caller_seen c.args.batch.caller) c.args.spot 0 on.added, may_add_next host key filed (caller_seen c.args.batch.caller) c.args.spot (events_seen c.args.batch.events.items) may.sound c.loop-event.self c.loop-event.at (event_seen c.in-Some.event) (events_seen (into_iter_items c.next.new.self)) c.in-Some-next.room (into_iter_items c.next-in-loop-event.new.self) on)

pub loop-event-preserved : goal.loop-event-preserved
loop-event-preserved c = λ host key filed may.
    let on = next_on host key filed (caller_seen c.args.batch.caller) c.args.spot (events_seen c.args.batch.events.items) may.sound c.loop-event.self c.loop-event.at (into_iter_items c.loop-event.event-iterator) (into_iter_items c.next.new.self) c.in-Some.event (into_iter_items c.loop-event.rooms) (into_iter_items c.next-in-loop-event.new.self) c.in-Some-next.room c.in-Some.ensures.steps.0 c.in-Some-next.ensures.cases.0
    (c.loop-event.invariant host key filed may) in
    let next = may_add_next host key filed (caller_seen c.args.batch.caller) c.args.spot (events_seen c.args.batch.events.items) may.sound c.loop-event.self c.loop-event.at (event_seen c.in-Some.event) (events_seen (into_iter_items c.next.new.self)) c.in-Some-next.room (into_iter_items c.next-in-loop-event.new.self) on in
    goes_on host key filed (caller_seen c.args.batch.caller) c.args.spot (events_seen c.args.batch.events.items) may.sound c.loop-event.self c.loop-event.at (event_seen c.in-Some.event) (events_seen (into_iter_items c.next.new.self)) c.in-Some-next.room (into_iter_items c.next-in-loop-event.new.self) on c.add_one.new.tables
    (c.add_one.ensures.adds host key (filed ++ filed_batch (caller_seen c.args.batch.caller) c.args.spot 0 on.added) next) c.add_one.ensures.uses c.add_one.ensures.rooms

pub returns : goal.returns
returns c = λ host key filed may.
    let none : length (events_seen (into_iter_items c.loop-event.event-iterator)) ≡ 0 = length-map (into_iter_items c.loop-event.event-iterator) event_seen ∙ sym c.loop-event.event-iterator.rest.ok.0 ∙ c.in-None.ensures.steps.0 in
    ends host key filed (caller_seen c.args.batch.caller) c.args.spot (events_seen c.args.batch.events.items) may.sound c.loop-event.self c.loop-event.at (events_seen (into_iter_items c.loop-event.event-iterator)) (into_iter_items c.loop-event.rooms) none (c.loop-event.invariant host key filed may)
