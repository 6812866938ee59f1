-- Rooms: what is to be placed in a view, and is ready for it.
use Rattle.payload_rules.specs.Payloads.{Payload}
use Rattle.history_view.specs.declared.room.Room.{Room}
use Rattle.history_view.specs.declared.room.Room.TheVariants.{Creates, Deletes}
use Rattle.history_view.specs.ViewState.{ViewState, IsCreationRoom, IsDeletionRoom}

-- the room is ready on this view, and holds this payload
abbrev pub IsReady : ViewState → Room → Payload → Type 0
IsReady s (Creates id c) payload = IsCreationRoom s id c payload
IsReady s (Deletes id) payload = IsDeletionRoom s id payload

-- each room that was ready is so still
abbrev pub KeepsRooms : (old new : ViewState) → Type 0
KeepsRooms old new = (room : Room) (payload : Payload) → IsReady old room payload → IsReady new room payload
