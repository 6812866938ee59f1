-- Of which entries a table is, and what it has room for.
use Rattle.std.specs.Prelude.{◌≡◌, ℕ, ◌+◌, ◌≤◌, List, ◌∷◌, length, map, All, ⊤}
use Rattle.record_rules.specs.Records.{Caller, Event, Started, Local, Taken}
use Rattle.record_rules.specs.Journal.{MayFollow}
use Rattle.record_model.specs.Seen.{caller_seen}
use Rattle.record_log.specs.declared.spots.Spot.{Spot}
use Rattle.chain_index.specs.Chains.{IndexSeen}
use Rattle.chain_index.specs.Meaning.{Filed, journal_of, IsIndexOf, IsReady}
use Rattle.store_tables.specs.declared.entries.KeptEntry.{KeptEntry}

-- what is seen of a table: where the records of its entries stand, whose call each entry came by and where it stands, and for how
-- many entries there is memory
pub record TableSeen : Type 0 where
  pub index : IndexSeen
  pub entries : List KeptEntry
  pub reserved : ℕ

-- an entry without what it says
pub record EntryPlace : Type 0 where
  pub caller : Caller
  pub spot : Spot
  pub at : ℕ

abbrev pub place_seen : KeptEntry → EntryPlace
place_seen e = record { caller = caller_seen e.caller; spot = e.spot; at = e.at }

abbrev pub place_of : Filed → EntryPlace
place_of f = record { caller = f.entry.caller; spot = f.spot; at = f.at }

-- the table is of these entries, in this order
pub record IsTableOf (table : TableSeen) (filed : List Filed) : Type 0 where
  pub places : map place_seen table.entries ≡ map place_of filed
  pub index : IsIndexOf table.index filed

-- ---- room

-- there is room for the record that an event says, if it says one
abbrev pub IsReadyFor : IndexSeen → Event → Type 0
IsReadyFor index (Started s) = ⊤
IsReadyFor index (Local closes r) = IsReady index 0 r
IsReadyFor index (Taken owner r) = IsReady index owner r

-- there is room for all of these events
pub record HasRoomFor (table : TableSeen) (events : List Event) : Type 0 where
  pub places : length table.entries + length events ≤ table.reserved
  pub index : All (IsReadyFor table.index) events

-- what there was room for, there is room for
abbrev pub KeepsRoom : TableSeen → TableSeen → Type 0
KeepsRoom old new = (events : List Event) → HasRoomFor old events → HasRoomFor new events

-- the room for the event was used, and what comes behind it still has its own
abbrev pub UsesRoom : Event → TableSeen → TableSeen → Type 0
UsesRoom event old new = (events : List Event) → HasRoomFor old (event ∷ events) → HasRoomFor new events

-- ---- one entry more

-- the event may be the next one of a sound journal, of which the index is
pub record MayIndex (index : IndexSeen) (event : Event) : Type 0 where
  pub filed : List Filed
  pub is : IsIndexOf index filed
  pub host : ℕ
  pub next : MayFollow (journal_of filed) host event

-- of which the table is
pub record MayFile (table : TableSeen) (event : Event) : Type 0 where
  pub filed : List Filed
  pub is : IsTableOf table filed
  pub host : ℕ
  pub next : MayFollow (journal_of filed) host event

-- an entry by a caller at this place
abbrev pub filed_by : Caller → Event → Spot → ℕ → Filed
filed_by caller event spot at = record { entry = record { caller = caller; event = event }; spot = spot; at = at }
