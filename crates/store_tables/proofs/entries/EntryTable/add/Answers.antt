use Rattle.std.proofs.Common.{◌∷◌, sym, subst, arith}
use Rattle.std.specs.Vec.{vec_capacity}
use Rattle.record_model.specs.Seen.{event_seen}
use Rattle.store_tables.specs.declared.entries.KeptEntry.{KeptEntry}
use Rattle.store_tables.specs.Entries.{TableSeen, HasRoomFor}
use Rattle.store_tables.proofs.Adding.{room_used}
use Rattle.store_tables.proofs.entries.EntryTable.add.Goals as goal

pub returns-clause-uses : goal.returns-clause-uses
returns-clause-uses c = λ events room.
    let old : TableSeen = record { index = c.self.inside.index; entries = c.self.inside.entries.items; reserved = vec_capacity c.self.inside.entries } in
    let new : TableSeen = record { index = c.add.new.index; entries = c.push.new.self.items; reserved = vec_capacity c.push.new.self } in
    let entry : KeptEntry = record { caller = c.args.caller; spot = c.args.spot; at = c.args.at } in
    room_used old new entry (event_seen c.args.event.now) c.in-Ok.ensures.items (omega (arith, c.push.ensures.capacity)) c.add.ensures.rooms events (subst (λ (t : TableSeen). HasRoomFor t (event_seen c.args.event.now ∷ events)) (sym c.self.view_is) room)
