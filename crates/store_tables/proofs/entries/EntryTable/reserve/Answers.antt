use Rattle.std.proofs.Common.{sym, subst}
use Rattle.std.specs.Vec.{vec_capacity}
use Rattle.store_tables.specs.Entries.{TableSeen, HasRoomFor}
use Rattle.store_tables.proofs.Adding.{room_kept}
use Rattle.store_tables.proofs.entries.EntryTable.reserve.Goals as goal

pub returns-clause-kept : goal.returns-clause-kept
returns-clause-kept c = λ events room.
    let old : TableSeen = record { index = c.self.inside.index; entries = c.self.inside.entries.items; reserved = vec_capacity c.self.inside.entries } in
    let new : TableSeen = record { index = c.reserve_all.new.index; entries = c.reserve.new.self.items; reserved = vec_capacity c.reserve.new.self } in
    room_kept old new c.reserve.ensures.items c.reserve.ensures.capacity c.reserve_all.ensures.rooms events (subst (λ (t : TableSeen). HasRoomFor t events) (sym c.self.view_is) room)
