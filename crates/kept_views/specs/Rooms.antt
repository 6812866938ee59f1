-- Rooms: what an event is to show, made ready in the view that it belongs to.
use Rattle.std.specs.Prelude.{◌≡◌, ℕ, List, Option, Some, None, true}
use Rattle.payload_rules.specs.Payloads.{Payload}
use Rattle.record_rules.specs.Records.{Event, Started, Local, Taken}
use Rattle.started_commands.specs.Kept.{has_place}
use Rattle.history_view.specs.Rooms as history
use Rattle.kv_view.specs.Pairs as pairs
use Rattle.alias_view.specs.Aliases as aliases
use Rattle.call_drafts.specs.declared.kept.Kept.{Kept}
use Rattle.kept_views.specs.declared.rooms.EventRoom.{EventRoom}
use Rattle.kept_views.specs.declared.rooms.EventRoom.TheVariants.{Unshown, History, Pair, Alias}
use Rattle.kept_views.specs.Shown.{shown_under}

-- the room is ready in its view and holds this payload; where nothing is shown it is in none
abbrev pub HoldsShown : Kept → Option Payload → EventRoom → Type 0
HoldsShown kept None Unshown = Unit {0}
HoldsShown kept (Some payload) (History room) = history.IsReady kept.history room payload
HoldsShown kept (Some payload) (Pair room) = pairs.IsReady kept.pairs room payload
HoldsShown kept (Some payload) (Alias room) = aliases.IsReady kept.aliases room payload
HoldsShown kept _ _ = ⊥

-- a command that starts has a place
abbrev pub HasPlace : Kept → Event → Type 0
HasPlace kept (Started s) = has_place kept.commands s.id ≡ true
HasPlace kept (Local closes r) = Unit {0}
HasPlace kept (Taken owner r) = Unit {0}

-- there is room for the event, and what it shows
pub record IsReady (kept : Kept) (event : Event) (shown : Option Payload) (room : EventRoom) : Type 0 where
  pub place : HasPlace kept event
  pub holds : HoldsShown kept shown room

-- it is room for what the event shows under this key
abbrev pub IsRoomFor : Option (List ℕ) → Kept → Event → EventRoom → Type 0
IsRoomFor key kept event room = IsReady kept event (shown_under key event) room

-- each room that was ready is so still
abbrev pub KeepsRooms : (old new : Kept) → Type 0
KeepsRooms old new = (event : Event) (shown : Option Payload) (room : EventRoom) → IsReady old event shown room → IsReady new event shown room
