-- The store of a log that stands on a disk: what is kept of its batches, one after the other, and what it then means.
use Rattle.std.specs.Prelude.{◌≡◌, ℕ, ◌<◌, ◌≤◌, Bool, true, false, List, [], ◌++◌, Option, Some, None, IfSome, Result, Ok, Err, All, ⊤}
use Rattle.record_rules.specs.Records.{Caller, Event}
use Rattle.record_rules.specs.Journal.{Sound}
use Rattle.log_rules.specs.Log.{current_form, StandsFor}
use Rattle.log_rules.specs.Opened.{opened_journal}
use Rattle.at_edge.specs.Storing.{DiskSeen, Tells}
use Rattle.journal_check.specs.Tallies.{Tallies}
use Rattle.log_check.specs.Checking.{IsChecked}
use Rattle.record_log.specs.declared.spots.Spot.{Spot}
use Rattle.record_log.specs.Journals.{LogSeen, HasJournal}
use Rattle.record_log.specs.Walking.{StandsBetween}
use Rattle.record_log.specs.Opening.{Synced}
use Rattle.chain_index.specs.Meaning.{Filed, journal_of}
use Rattle.store_tables.specs.declared.tables.Tables.{Tables}
use Rattle.store_tables.specs.Tables.{TablesOf, filed_batch}
use Rattle.store_core.specs.Store.{StoreSeen, StandsThere, IsStoreOf}

-- ---- the store

-- the disk showed a sound log of these events, and was synced; the store is of their journal, each entry by nobody
pub record OpensStore (old : DiskSeen) (store : StoreSeen) : Type 0 where
  pub events : List Event
  pub is : IsStoreOf store (opened_journal events) []
  pub shown : Tells old (λ d. StandsFor current_form d.shows store.log.host (opened_journal events))
  pub synced : Synced old store.log.disk

-- with these tables, and under the key, there is a store of the journal of what was found in the log: its own events, where its disk tells
pub record KeepsLog (log : LogSeen) (key : Option (List ℕ)) (tables : Tables) (events : List Event) : Type 0 where
  pub found : List Event
  pub is : IsStoreOf (record { log = log; key = key; tables = tables; doubt = None }) (opened_journal found) []
  pub all : Tells log.disk (λ _. found ≡ events)

-- ---- a batch

-- the events may come next, and what is checked is of them too; or they may not; or memory ran out
abbrev pub ChecksAll : {E : Type 0} → Result Bool E → (host : ℕ) → (before events : List Event) → Tallies → Type 0
ChecksAll (Ok true) host before events new = IsChecked new (before ++ events)
ChecksAll (Ok false) host before events new = Sound (opened_journal (before ++ events)) host → ⊥
ChecksAll (Err _) host before events new = ⊤

-- what is kept and what is checked is of these events, each by nobody
pub record KeepsSoFar (key : Option (List ℕ)) (tables : Tables) (check : Tallies) (before : List Event) (filed : List Filed) : Type 0 where
  pub filed_are : journal_of filed ≡ opened_journal before
  pub are_of : TablesOf check.host key tables filed
  pub checked : IsChecked check before

-- nobody's call
abbrev pub nobody : Caller
nobody = record { number = 0; call = 0; settled_for = 0 }

-- the batch is kept too, at its spot; or its events may not come next; or memory ran out
abbrev pub KeepsBatch : {E : Type 0} → Result Bool E → Option (List ℕ) → Tables → (host : ℕ) → Tallies → (before : List Event) → List Filed → (events : List Event) → Spot → Type 0
KeepsBatch (Ok true) key tables host check before filed events spot = KeepsSoFar key tables check (before ++ events) (filed ++ filed_batch nobody spot 0 events)
KeepsBatch (Ok false) key tables host check before filed events spot = Sound (opened_journal (before ++ events)) host → ⊥
KeepsBatch (Err _) key tables host check before filed events spot = ⊤

-- ---- the way along the log

-- the gate at this offset stands behind the first of these events
pub record IsBehind (shows : List ℕ) (gate offset : ℕ) (before events : List Event) : Type 0 where
  pub after : List Event
  pub stands : StandsBetween current_form shows gate offset before after
  pub all : before ++ after ≡ events

-- of a log of these events all that stands before this offset is kept, where it stands
pub record WalksTo (log : LogSeen) (key : Option (List ℕ)) (events : List Event) (offset : ℕ) (tables : Tables) (check : Tallies) : Type 0 where
  pub journal_is : HasJournal log (opened_journal events)
  pub host : check.host ≡ log.host
  pub before : List Event
  pub place : Tells log.disk (λ d. IsBehind d.shows log.gate offset before events)
  pub filed : List Filed
  pub kept : KeepsSoFar key tables check before filed
  pub there : All (StandsThere log) filed

-- the same up to the next gate; or all is kept
abbrev pub WalksOn : {E : Type 0} → Result (Option ℕ) E → LogSeen → Option (List ℕ) → (events : List Event) → Tables → Tallies → Type 0
WalksOn (Ok (Some next)) log key events tables check = WalksTo log key events next tables check
WalksOn (Ok None) log key events tables check = KeepsLog log key tables events
WalksOn (Err _) log key events tables check = ⊤

-- the next gate stands behind this one, at most where the closed one is
abbrev pub GoesOnwards : (gate offset : ℕ) → Option ℕ → Type 0
GoesOnwards gate offset found = IfSome found (λ next. (offset < next) × (next ≤ gate))
