-- What a store keeps beside its log, of which entries, and a batch on its way to them.
use Rattle.std.specs.Prelude.{ℕ, ◌+◌, ◌<◌, ◌^◌, List, [], ◌∷◌, ◌++◌, length, Option}
use Rattle.record_rules.specs.Records.{Caller, Event}
use Rattle.record_rules.specs.Journal.{SoundEvents, events_of}
use Rattle.record_model.specs.Seen.{caller_seen, events_seen}
use Rattle.record_log.specs.declared.spots.Spot.{Spot}
use Rattle.chain_index.specs.Meaning.{Filed, journal_of}
use Rattle.call_drafts.specs.declared.kept.Kept.{Kept}
use Rattle.kept_views.specs.declared.rooms.EventRoom.{EventRoom}
use Rattle.kept_views.specs.Rooms.{IsRoomFor}
use Rattle.kept_views.specs.Keeping.{KeepsFor}
use Rattle.store_tables.specs.declared.tables.Tables.{Tables}
use Rattle.store_tables.specs.declared.tables.Batch.{Batch}
use Rattle.store_tables.specs.Entries.{IsTableOf, HasRoomFor, filed_by}

-- the tables are of these entries: their places, and what this key opens of them on this host
pub record TablesOf (host : ℕ) (key : Option (List ℕ)) (tables : Tables) (filed : List Filed) : Type 0 where
  pub entries : IsTableOf tables.entries filed
  pub kept : KeepsFor host key tables.kept (journal_of filed)

-- ---- a batch

-- the events of a batch by one caller, each with the batch's spot and its number, from this one on
abbrev pub filed_batch : Caller → Spot → ℕ → List Event → List Filed
filed_batch caller spot at [] = []
filed_batch caller spot at (event ∷ events) = filed_by caller event spot at ∷ filed_batch caller spot (at + 1) events

-- each of the events has a room of its own for what it shows under the key
abbrev pub AreRooms : Option (List ℕ) → Kept → List Event → List EventRoom → Type 0
AreRooms key kept [] [] = Unit {0}
AreRooms key kept (event ∷ events) (room ∷ rooms) = IsRoomFor key kept event room × AreRooms key kept events rooms
AreRooms key kept [] (room ∷ rooms) = ⊥
AreRooms key kept (event ∷ events) [] = ⊥

-- there is room for the batch
pub record IsReadyBatch (key : Option (List ℕ)) (tables : Tables) (batch : Batch) : Type 0 where
  pub few : length batch.events.items < 2 ^ 32
  pub entries : HasRoomFor tables.entries (events_seen batch.events.items)
  pub rooms : AreRooms key tables.kept (events_seen batch.events.items) batch.rooms.items

-- the batch may be added behind these entries: there is room, and with it the journal is sound
pub record MayAddBatch (host : ℕ) (key : Option (List ℕ)) (tables : Tables) (filed : List Filed) (batch : Batch) : Type 0 where
  pub is : TablesOf host key tables filed
  pub ready : IsReadyBatch key tables batch
  pub sound : SoundEvents (events_of (journal_of filed) ++ events_seen batch.events.items) host

-- the entries that the batch adds at this spot
abbrev pub batch_entries : Batch → Spot → List Filed
batch_entries batch spot = filed_batch (caller_seen batch.caller) spot 0 (events_seen batch.events.items)

-- one event may be added behind these entries, of which a sound journal may go on so
pub record MayAddOne (host : ℕ) (key : Option (List ℕ)) (tables : Tables) (filed : List Filed) (event : Event) (room : EventRoom) : Type 0 where
  pub is : TablesOf host key tables filed
  pub entries : HasRoomFor tables.entries (event ∷ [])
  pub fits : IsRoomFor key tables.kept event room
  pub sound : SoundEvents (events_of (journal_of filed) ++ event ∷ []) host
