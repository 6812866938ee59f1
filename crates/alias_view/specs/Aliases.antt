-- What is kept of aliases, and what it means.
use Rattle.std.specs.Prelude.{◌≡◌, ℕ, List, Option, None, Some, true}
use Rattle.payload_rules.specs.Payloads.{Payload, AliasSet, AliasDelete}
use Rattle.view_rules.specs.Changes.{Change}
use Rattle.view_rules.specs.Views.{of_name}
use Rattle.view_rules.specs.Standing.{last_said}
use Rattle.latest_values.specs.Settings.{Places, has_name, said_of}
use Rattle.alias_view.specs.declared.view.Room.{Room}

-- the view is of these changes
abbrev pub Means : Places → List Change → Type 0
Means places changes = (name : List ℕ) → said_of places name ≡ last_said (of_name name) changes

abbrev pub payload_for : (name : List ℕ) → (said : Option (List ℕ)) → Payload
payload_for name None = AliasDelete name
payload_for name (Some value) = AliasSet name value

-- the room is ready on this view, and holds this payload
pub record IsReady (places : Places) (room : Room) (payload : Payload) : Type 0 where
  pub has_name : has_name places room.name.items ≡ true
  pub holds : payload ≡ payload_for room.name.items room.said

-- each room that was ready is so still
abbrev pub KeepsRooms : (old new : Places) → Type 0
KeepsRooms old new = (room : Room) (payload : Payload) → IsReady old room payload → IsReady new room payload
