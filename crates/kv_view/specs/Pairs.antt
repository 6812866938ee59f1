-- What is kept of keys, and what it means.
use Rattle.std.specs.Prelude.{◌≡◌, ℕ, List, [], map, Option, None, Some, Bool, true}
use Rattle.std.specs.Option.{unwrap_or, is_some}
use Rattle.std.specs.Map.{lookup}
use Rattle.std.specs.BTreeMap.{is_at}
use Rattle.std.specs.Cmp.Lexicographic.{slice_cmp}
use Rattle.std.specs.Ordering.{nat_cmp}
use Rattle.payload_rules.specs.Payloads.{Payload, KvSet, KvDelete}
use Rattle.view_rules.specs.Changes.{Change}
use Rattle.view_rules.specs.Views.{of_key}
use Rattle.view_rules.specs.Answers.{Named}
use Rattle.view_rules.specs.Standing.{Setting, last_said}
use Rattle.latest_values.specs.Settings.{Places, has_name, said_of}
use Rattle.kv_view.specs.declared.view.Room.{Room}

-- namespaces in rising order, each with its keys
abbrev pub Pairs : Type 0
Pairs = List (List ℕ × Places)

abbrev pub space_of : Pairs → List ℕ → Option Places
space_of pairs namespace = lookup (is_at (slice_cmp nat_cmp namespace)) pairs

abbrev pub has_space : Pairs → List ℕ → Bool
has_space pairs namespace = is_some (space_of pairs namespace)

abbrev pub keys_of : Pairs → List ℕ → Places
keys_of pairs namespace = unwrap_or (space_of pairs namespace) []

abbrev pub has_pair : Pairs → (namespace key : List ℕ) → Bool
has_pair pairs namespace key = has_name (keys_of pairs namespace) key

-- the last that was said of a pair
abbrev pub said_in : Pairs → (namespace key : List ℕ) → Option Setting
said_in pairs namespace key = said_of (keys_of pairs namespace) key

-- a place that was made stays made
abbrev pub KeepsPairs : (old new : Pairs) → Type 0
KeepsPairs old new = (namespace key : List ℕ) → has_pair old namespace key ≡ true → has_pair new namespace key ≡ true

-- the view is of these changes
abbrev pub Means : Pairs → List Change → Type 0
Means pairs changes = (namespace key : List ℕ) → said_in pairs namespace key ≡ last_said (of_key namespace key) changes

abbrev pub payload_for : (namespace key : List ℕ) → (said : Option (List ℕ)) → Payload
payload_for namespace key None = KvDelete namespace key
payload_for namespace key (Some value) = KvSet namespace key value

-- the room is ready on this view, and holds this payload
pub record IsReady (pairs : Pairs) (room : Room) (payload : Payload) : Type 0 where
  pub has_pair : has_pair pairs room.namespace.items room.key.items ≡ true
  pub holds : payload ≡ payload_for room.namespace.items room.key.items room.said

-- each room that was ready is so still
abbrev pub KeepsRooms : (old new : Pairs) → Type 0
KeepsRooms old new = (room : Room) (payload : Payload) → IsReady old room payload → IsReady new room payload

-- keys as a list shows them, without their values
abbrev pub keys_listed : List (List ℕ) → List Named
keys_listed keys = map (λ (key : List ℕ). record { name = key; value = [] }) keys
