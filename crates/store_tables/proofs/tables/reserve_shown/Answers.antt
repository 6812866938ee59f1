use Rattle.std.proofs.Common.{◌+◌, List, take, sym, subst}
use Rattle.record_model.specs.Seen.{events_seen}
use Rattle.kept_views.specs.declared.rooms.EventRoom.{EventRoom}
use Rattle.store_tables.specs.Tables.{AreRooms}
use Rattle.store_tables.proofs.Batches.{are_rooms_kept, next_room}
use Rattle.store_tables.proofs.tables.reserve_shown.Goals as goal

pub returns-in_err-room-clause-kept : goal.returns-in_err-room-clause-kept
returns-in_err-room-clause-kept c = λ event shown room ready. c.reserve_event.ensures.rooms event shown room (c.loop-event.invariant.kept event shown room ready)

pub returns-in_err-push-clause-kept : goal.returns-in_err-push-clause-kept
returns-in_err-push-clause-kept c = λ event shown room ready. c.reserve_event.ensures.rooms event shown room (c.loop-event.invariant.kept event shown room ready)

pub loop-event-preserved : goal.loop-event-preserved
loop-event-preserved c = record {
  rooms = subst (λ (rs : List EventRoom). AreRooms c.args.key.now c.reserve_event.new.kept (events_seen (take (c.loop-event.event-index + 1) c.args.events.now)) rs) (sym c.in_ok-push.ensures.items)
      (next_room c.args.key.now c.reserve_event.new.kept c.args.events.now c.loop-event.event-index c.event-item.result c.loop-event.rooms.items c.in_ok-room.room c.loop-event-test.true c.event-item.is
      (are_rooms_kept c.args.key.now c.loop-event.kept c.reserve_event.new.kept c.reserve_event.ensures.rooms (events_seen (take c.loop-event.event-index c.args.events.now)) c.loop-event.rooms.items c.loop-event.invariant.rooms) c.in_ok-room.ensures.ready);
  keeps = λ host key journal is. c.reserve_event.ensures.keeps host key journal (c.loop-event.invariant.keeps host key journal is);
  kept = λ event shown room ready. c.reserve_event.ensures.rooms event shown room (c.loop-event.invariant.kept event shown room ready);
}
