use Rattle.std.proofs.Common.{ℕ, List, Option, take}
use Rattle.record_rules.specs.Records.{Entry}
use Rattle.record_model.specs.Seen.{events_seen}
use Rattle.kept_views.specs.Rooms.{KeepsRooms}
use Rattle.kept_views.specs.Keeping.{KeepsFor}
use Rattle.store_tables.specs.Tables.{AreRooms}
use Rattle.store_tables.proofs.tables.reserve_shown.Given as goal

abbrev pub invariant-loop-event : goal.invariant-loop-event
invariant-loop-event l = record {
  rooms : AreRooms l.key l.kept (events_seen (take l.event-index l.events)) l.rooms.items;
  keeps : (host : ℕ) (key : Option (List ℕ)) (journal : List Entry) → KeepsFor host key l.initial.kept journal → KeepsFor host key l.kept journal;
  kept : KeepsRooms l.initial.kept l.kept;
}
