-- What is kept of commands, and of which journal.
use Rattle.std.specs.Prelude.{◌≡◌, ℕ, Bool, true, false, List, [], ◌∷◌, ◌++◌, Option, None, Some, nat_eq}
use Rattle.std.specs.List.{list_any}
use Rattle.std.specs.Option.{is_some}
use Rattle.std.specs.Map.{lookup}
use Rattle.definitions.specs.Journal.{StartedRecord}
use Rattle.record_rules.specs.Records.{SealedRecord, Entry, Event, Taken}
use Rattle.record_rules.specs.Journal.{events_of}
use Rattle.step_rules.specs.Step.{starts_id, running_under}
use Rattle.record_model.specs.Seen.{started_seen}
use Rattle.started_commands.specs.declared.commands.Standing.{Standing}
use Rattle.started_commands.specs.declared.commands.Standing.TheVariants.{Expected, Running, Ended}

abbrev pub Kept : Type 0
Kept = List (ℕ × Standing)

abbrev pub standing_in : Kept → ℕ → Option Standing
standing_in kept id = lookup (nat_eq id) kept

abbrev pub has_place : Kept → ℕ → Bool
has_place kept id = is_some (standing_in kept id)

-- whether it was started
abbrev pub is_command : Option Standing → Bool
is_command None = false
is_command (Some Expected) = false
is_command (Some (Running s)) = true
is_command (Some Ended) = true

abbrev pub is_known : Kept → ℕ → Bool
is_known kept id = is_command (standing_in kept id)

-- what its start told, while it runs
abbrev pub command_of : Option Standing → Option StartedRecord
command_of None = None
command_of (Some Expected) = None
command_of (Some (Running s)) = Some (started_seen s)
command_of (Some Ended) = None

abbrev pub running_in : Kept → ℕ → Option StartedRecord
running_in kept id = command_of (standing_in kept id)

-- a place that was made stays made
abbrev pub KeepsPlaces : Kept → Kept → Type 0
KeepsPlaces old new = (id : ℕ) → has_place old id ≡ true → has_place new id ≡ true

abbrev pub was_started : ℕ → List Event → Bool
was_started id events = list_any (starts_id id) events

-- the ids of the journal's started commands are known, and what runs there is kept
pub record IsOf (kept : Kept) (journal : List Entry) : Type 0 where
  pub known : (id : ℕ) → is_known kept id ≡ was_started id (events_of journal)
  pub running : (id : ℕ) → running_in kept id ≡ running_under id journal

-- a record that was taken in starts no command and ends none
abbrev pub TakenChangesNothing : Type 0
TakenChangesNothing = (kept : Kept) (journal : List Entry) (entry : Entry) (owner : ℕ) (r : SealedRecord) → IsOf kept journal → entry.event ≡ Taken owner r → IsOf kept (journal ++ entry ∷ [])
