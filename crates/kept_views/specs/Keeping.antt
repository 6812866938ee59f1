-- Of which journal it is kept, and what one event more makes of it.
use Rattle.std.specs.Prelude.{◌≡◌, ℕ, List, [], ◌∷◌, ◌++◌, Option, Some, None}
use Rattle.std.specs.List.{cons_option}
use Rattle.record_rules.specs.Records.{Entry}
use Rattle.record_rules.specs.Journal.{Sound}
use Rattle.view_rules.specs.Changes.{Change}
use Rattle.step_rules.specs.Sealing.{keyed_store}
use Rattle.record_seal.proofs.StoreSealing.{record_sealing}
use Rattle.started_commands.specs.Kept.{IsOf, is_known}
use Rattle.history_view.specs.ViewState as history
use Rattle.kv_view.specs.Pairs as pairs
use Rattle.alias_view.specs.Aliases as aliases
use Rattle.latest_values.specs.Settings.{said_of}
use Rattle.call_drafts.specs.Drafting.{IsKeptOf}
use Rattle.call_drafts.specs.declared.kept.Kept.{Kept}
use Rattle.kept_views.specs.declared.rooms.EventRoom.{EventRoom}
use Rattle.kept_views.specs.Rooms.{IsRoomFor}

-- it is kept of what this key opens of the journal, on this host; without a key, of the commands that run there alone
abbrev pub KeepsFor : (host : ℕ) → Option (List ℕ) → Kept → List Entry → Type 0
KeepsFor host None kept journal = IsOf kept.commands journal
KeepsFor host (Some key) kept journal = IsKeptOf kept (keyed_store record_sealing host key) journal

-- the views show what they showed, the same ids are known, and the commands are of the journals that they were of
pub record KeepsMeaning (old new : Kept) : Type 0 where
  pub known : (id : ℕ) → is_known new.commands id ≡ is_known old.commands id
  pub commands : (journal : List Entry) → IsOf old.commands journal → IsOf new.commands journal
  pub history : (id : ℕ) → history.standing_in new.history id ≡ history.standing_in old.history id
  pub pairs : (namespace key : List ℕ) → pairs.said_in new.pairs namespace key ≡ pairs.said_in old.pairs namespace key
  pub aliases : (name : List ℕ) → said_of new.aliases name ≡ said_of old.aliases name

-- the entry may be added: with it the journal is sound, and the room is for its event
pub record MayAdd (host : ℕ) (key : Option (List ℕ)) (kept : Kept) (journal : List Entry) (entry : Entry) (room : EventRoom) : Type 0 where
  pub keeps : KeepsFor host key kept journal
  pub sound : Sound (journal ++ entry ∷ []) host
  pub ready : IsRoomFor key kept entry.event room

-- ---- parts of it

-- the views are of this change more, or of none
pub record GrowsBy (old new : Kept) (change : Option Change) : Type 0 where
  pub history : (changes : List Change) → history.Means old.history changes → history.Means new.history (cons_option change changes)
  pub pairs : (changes : List Change) → pairs.Means old.pairs changes → pairs.Means new.pairs (cons_option change changes)
  pub aliases : (changes : List Change) → aliases.Means old.aliases changes → aliases.Means new.aliases (cons_option change changes)
