-- A room that is placed in its view is one change more there, of which the other views say nothing.
use Rattle.std.proofs.Common.{◌≡◌, ℕ, List, ◌∷◌, Option, Some, None, refl, sym, ap, ◌∙◌}
use Rattle.std.specs.Option.{option_map}
use Rattle.payload_rules.specs.Payloads.{Payload}
use Rattle.record_rules.specs.Records.{SealedRecord}
use Rattle.view_rules.specs.Changes.{Change, change_of}
use Rattle.view_rules.specs.Views.{of_key, of_name}
use Rattle.view_rules.specs.Standing.{Standing, standing, after_payload, after_saying, last_said}
use Rattle.history_view.specs.declared.room.Room as history_room
use Rattle.history_view.specs.declared.room.Room.TheVariants.{Creates, Deletes}
use Rattle.history_view.specs.ViewState as history
use Rattle.history_view.specs.Rooms as history_rooms
use Rattle.latest_values.specs.Settings.{Places}
use Rattle.kv_view.specs.declared.view.Room as pair_room
use Rattle.kv_view.specs.Pairs as pairs
use Rattle.alias_view.specs.declared.view.Room as alias_room
use Rattle.alias_view.specs.Aliases as aliases
use Rattle.call_drafts.specs.declared.kept.Kept.{Kept}
use Rattle.kept_views.specs.declared.rooms.EventRoom.TheVariants.{Unshown, History, Pair, Alias}
use Rattle.kept_views.specs.Rooms.{HoldsShown}
use Rattle.kept_views.specs.Keeping.{GrowsBy}

-- ---- changes of which a view says nothing

history_same : (s : history.ViewState) (c : Change) → ((id : ℕ) (stands : Standing) → after_payload c.host c.idx c.payload id stands ≡ stands) → (changes : List Change) → history.Means s changes → history.Means s (c ∷ changes)
history_same s c silent changes means id = means id ∙ sym (silent id (standing changes id))

pairs_same : (p : pairs.Pairs) (c : Change) → ((namespace key : List ℕ) → of_key namespace key c.payload ≡ None) → (changes : List Change) → pairs.Means p changes → pairs.Means p (c ∷ changes)
pairs_same p c silent changes means namespace key =
    means namespace key ∙ sym (ap (λ (said : Option (Option (List ℕ))). after_saying said c (last_said (of_key namespace key) changes)) (silent namespace key))

aliases_same : (places : Places) (c : Change) → ((name : List ℕ) → of_name name c.payload ≡ None) → (changes : List Change) → aliases.Means places changes → aliases.Means places (c ∷ changes)
aliases_same places c silent changes means name =
    means name ∙ sym (ap (λ (said : Option (Option (List ℕ))). after_saying said c (last_said (of_name name) changes)) (silent name))

-- ---- commands

command_of_no_key : (s : history.ViewState) (room : history_room.Room) (payload : Payload) → history_rooms.IsReady s room payload → (namespace key : List ℕ) → of_key namespace key payload ≡ None
command_of_no_key s (Creates id c) payload ready namespace key = ap (of_key namespace key) ready.holds
command_of_no_key s (Deletes id) payload ready namespace key = ap (of_key namespace key) ready.holds

command_of_no_name : (s : history.ViewState) (room : history_room.Room) (payload : Payload) → history_rooms.IsReady s room payload → (name : List ℕ) → of_name name payload ≡ None
command_of_no_name s (Creates id c) payload ready name = ap (of_name name) ready.holds
command_of_no_name s (Deletes id) payload ready name = ap (of_name name) ready.holds

module _ (old : Kept) (r : SealedRecord) where
  pub shows_command : (new : history.ViewState) (room : history_room.Room)
      → ((payload : Payload) (changes : List Change) (timestamp : ℕ) → history_rooms.IsReady old.history room payload → history.Means old.history changes → history.Means new (record { host = r.host; idx = r.idx; timestamp = timestamp; payload = payload } ∷ changes))
      → (shown : Option Payload) → HoldsShown old shown (History room) → GrowsBy old (record old { history = new }) (option_map (change_of r) shown)
  shows_command new room adds None holds = absurd holds
  shows_command new room adds (Some payload) ready = record {
    history = λ changes means. adds payload changes r.timestamp ready means;
    pairs = pairs_same old.pairs (change_of r payload) (command_of_no_key old.history room payload ready);
    aliases = aliases_same old.aliases (change_of r payload) (command_of_no_name old.history room payload ready);
  }

  pub command_is_ready : (room : history_room.Room) → (shown : Option Payload) → HoldsShown old shown (History room) → (payload : Payload) × history_rooms.IsReady old.history room payload
  command_is_ready room None holds = absurd holds
  command_is_ready room (Some payload) ready = (payload, ready)

-- ---- values of keys

pair_of_no_id : (namespace key : List ℕ) (said : Option (List ℕ)) (host idx id : ℕ) (stands : Standing) → after_payload host idx (pairs.payload_for namespace key said) id stands ≡ stands
pair_of_no_id namespace key None host idx id stands = refl
pair_of_no_id namespace key (Some value) host idx id stands = refl

pair_of_no_name : (namespace key : List ℕ) (said : Option (List ℕ)) (name : List ℕ) → of_name name (pairs.payload_for namespace key said) ≡ None
pair_of_no_name namespace key None name = refl
pair_of_no_name namespace key (Some value) name = refl

module _ (old : Kept) (r : SealedRecord) where
  pub shows_pair : (new : pairs.Pairs) (room : pair_room.Room)
      → ((payload : Payload) (changes : List Change) → pairs.IsReady old.pairs room payload → pairs.Means old.pairs changes → pairs.Means new (record { host = r.host; idx = r.idx; timestamp = r.timestamp; payload = payload } ∷ changes))
      → (shown : Option Payload) → HoldsShown old shown (Pair room) → GrowsBy old (record old { pairs = new }) (option_map (change_of r) shown)
  shows_pair new room adds None holds = absurd holds
  shows_pair new room adds (Some payload) ready = record {
    history = history_same old.history (change_of r payload) (λ id stands. ap (λ (p : Payload). after_payload r.host r.idx p id stands) ready.holds ∙ pair_of_no_id room.namespace.items room.key.items room.said r.host r.idx id stands);
    pairs = λ changes means. adds payload changes ready means;
    aliases = aliases_same old.aliases (change_of r payload) (λ name. ap (of_name name) ready.holds ∙ pair_of_no_name room.namespace.items room.key.items room.said name);
  }

  pub pair_is_ready : (room : pair_room.Room) → (shown : Option Payload) → HoldsShown old shown (Pair room) → (payload : Payload) × pairs.IsReady old.pairs room payload
  pair_is_ready room None holds = absurd holds
  pair_is_ready room (Some payload) ready = (payload, ready)

-- ---- aliases

alias_of_no_id : (name : List ℕ) (said : Option (List ℕ)) (host idx id : ℕ) (stands : Standing) → after_payload host idx (aliases.payload_for name said) id stands ≡ stands
alias_of_no_id name None host idx id stands = refl
alias_of_no_id name (Some value) host idx id stands = refl

alias_of_no_key : (name : List ℕ) (said : Option (List ℕ)) (namespace key : List ℕ) → of_key namespace key (aliases.payload_for name said) ≡ None
alias_of_no_key name None namespace key = refl
alias_of_no_key name (Some value) namespace key = refl

module _ (old : Kept) (r : SealedRecord) where
  pub shows_alias : (new : Places) (room : alias_room.Room)
      → ((payload : Payload) (changes : List Change) → aliases.IsReady old.aliases room payload → aliases.Means old.aliases changes → aliases.Means new (record { host = r.host; idx = r.idx; timestamp = r.timestamp; payload = payload } ∷ changes))
      → (shown : Option Payload) → HoldsShown old shown (Alias room) → GrowsBy old (record old { aliases = new }) (option_map (change_of r) shown)
  shows_alias new room adds None holds = absurd holds
  shows_alias new room adds (Some payload) ready = record {
    history = history_same old.history (change_of r payload) (λ id stands. ap (λ (p : Payload). after_payload r.host r.idx p id stands) ready.holds ∙ alias_of_no_id room.name.items room.said r.host r.idx id stands);
    pairs = pairs_same old.pairs (change_of r payload) (λ namespace key. ap (of_key namespace key) ready.holds ∙ alias_of_no_key room.name.items room.said namespace key);
    aliases = λ changes means. adds payload changes ready means;
  }

  pub alias_is_ready : (room : alias_room.Room) → (shown : Option Payload) → HoldsShown old shown (Alias room) → (payload : Payload) × aliases.IsReady old.aliases room payload
  alias_is_ready room None holds = absurd holds
  alias_is_ready room (Some payload) ready = (payload, ready)

-- ---- nothing

pub shows_nothing : (old : Kept) (r : SealedRecord) (shown : Option Payload) → HoldsShown old shown Unshown → GrowsBy old old (option_map (change_of r) shown)
shows_nothing old r None holds = record { history = λ changes means. means; pairs = λ changes means. means; aliases = λ changes means. means }
shows_nothing old r (Some payload) holds = absurd holds
