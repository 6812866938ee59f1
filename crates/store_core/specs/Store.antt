-- What a store means: the journal of its entries, each at the place where its log's disk shows it, and the batch in doubt.
use Rattle.std.specs.Prelude.{◌≡◌, ◌≢◌, ℕ, List, [], ◌++◌, map, All, Option, Some, None}
use Rattle.record_rules.specs.Records.{Entry, Caller}
use Rattle.record_rules.specs.Journal.{Sound}
use Rattle.record_model.specs.declared.entries.Event as model
use Rattle.record_model.specs.Seen.{caller_seen, event_seen}
use Rattle.at_edge.specs.Storing.{Tells}
use Rattle.record_log.specs.Journals.{LogSeen, HasJournal, HasDoubt}
use Rattle.record_log.specs.Reading.{EventBefore}
use Rattle.chain_index.specs.Meaning.{Filed, journal_of}
use Rattle.store_tables.specs.declared.tables.Tables.{Tables}
use Rattle.store_tables.specs.declared.tables.Batch.{Batch}
use Rattle.store_tables.specs.Tables.{TablesOf, IsReadyBatch}

-- what is seen of a store: its log, its key if it has one, what it keeps beside the log, and the batch in doubt
pub record StoreSeen : Type 0 where
  pub log : LogSeen
  pub key : Option (List ℕ)
  pub tables : Tables
  pub doubt : Option Batch

-- an event as an entry by a caller
abbrev pub entry_by : Caller → model.Event → Entry
entry_by caller event = record { caller = caller; event = event_seen event }

-- the entries of a batch, each by the caller of all
abbrev pub entries_of : Batch → List Entry
entries_of batch = map (entry_by (caller_seen batch.caller)) batch.events.items

abbrev pub doubted : Option Batch → List Entry
doubted None = []
doubted (Some batch) = entries_of batch

-- the log has the journal, with the batch in doubt behind it, if there is one
abbrev pub LogMeans : LogSeen → List Entry → Option Batch → Type 0
LogMeans log journal None = HasJournal log journal
LogMeans log journal (Some batch) = HasDoubt log journal (entries_of batch)

-- where the disk tells, the entry's event stands before the closed gate, at its spot and number
abbrev pub StandsThere : LogSeen → Filed → Type 0
StandsThere log f = Tells log.disk (λ d. EventBefore log.gate d.shows f.spot f.at f.entry.event)

-- the batch in doubt, if there is one, has entries, and there is room for it
abbrev pub HasRoomForDoubt : Option (List ℕ) → Tables → Option Batch → Type 0
HasRoomForDoubt key tables None = Unit {0}
HasRoomForDoubt key tables (Some batch) = (entries_of batch ≢ []) × IsReadyBatch key tables batch

-- the store means the journal, and the entries in doubt behind it
pub record IsStoreOf (store : StoreSeen) (journal doubt : List Entry) : Type 0 where
  pub filed : List Filed
  pub journal_is : journal ≡ journal_of filed
  pub doubt_is : doubt ≡ doubted store.doubt
  pub log : LogMeans store.log journal store.doubt
  pub sound : Sound (journal ++ doubt) store.log.host
  pub there : All (StandsThere store.log) filed
  pub tables : TablesOf store.log.host store.key store.tables filed
  pub room : HasRoomForDoubt store.key store.tables store.doubt
