-- Rooms that stay ready.
use Rattle.std.proofs.Common.{Option, Some, None}
use Rattle.payload_rules.specs.Payloads.{Payload}
use Rattle.record_rules.specs.Records.{Event, Started, Local, Taken}
use Rattle.started_commands.specs.Kept as started
use Rattle.history_view.specs.Rooms as history
use Rattle.kv_view.specs.Pairs as pairs
use Rattle.alias_view.specs.Aliases as aliases
use Rattle.call_drafts.specs.declared.kept.Kept.{Kept}
use Rattle.kept_views.specs.declared.rooms.EventRoom.{EventRoom}
use Rattle.kept_views.specs.declared.rooms.EventRoom.TheVariants.{Unshown, History, Pair, Alias}
use Rattle.kept_views.specs.Rooms.{HoldsShown, HasPlace, KeepsRooms}

module _ (old new : Kept) where
  -- where each view's rooms stay ready
  pub holds_still : history.KeepsRooms old.history new.history → pairs.KeepsRooms old.pairs new.pairs → aliases.KeepsRooms old.aliases new.aliases → (shown : Option Payload) (room : EventRoom) → HoldsShown old shown room → HoldsShown new shown room
  holds_still h p a None Unshown holds = tt
  holds_still h p a None (History room) holds = holds
  holds_still h p a None (Pair room) holds = holds
  holds_still h p a None (Alias room) holds = holds
  holds_still h p a (Some payload) Unshown holds = holds
  holds_still h p a (Some payload) (History room) holds = h room payload holds
  holds_still h p a (Some payload) (Pair room) holds = p room payload holds
  holds_still h p a (Some payload) (Alias room) holds = a room payload holds

  place_still : started.KeepsPlaces old.commands new.commands → (event : Event) → HasPlace old event → HasPlace new event
  place_still places (Started s) has = places s.id has
  place_still places (Local closes r) has = tt
  place_still places (Taken owner r) has = tt

  pub rooms_still : started.KeepsPlaces old.commands new.commands → history.KeepsRooms old.history new.history → pairs.KeepsRooms old.pairs new.pairs → aliases.KeepsRooms old.aliases new.aliases → KeepsRooms old new
  rooms_still places h p a event shown room ready = record { place = place_still places event ready.place; holds = holds_still h p a shown room ready.holds }

-- ---- one part alone that changes

module _ (old : Kept) where
  pub rooms_of_commands : (commands : started.Kept) → started.KeepsPlaces old.commands commands → KeepsRooms old (record old { commands = commands })
  rooms_of_commands commands keeps = rooms_still old (record old { commands = commands }) keeps (λ room payload ready. ready) (λ room payload ready. ready) (λ room payload ready. ready)
