-- A store that is opened on a disk, and what is noted of it.
use Rattle.std.specs.Prelude.{◌≡◌, List, []}
use Rattle.record_rules.specs.Records.{Event}
use Rattle.log_rules.specs.Log.{current_form, StandsFor}
use Rattle.log_rules.specs.Opened.{opened_journal}
use Rattle.at_edge.specs.Storing.{DiskSeen, Tells}
use Rattle.record_log.specs.Opening.{Synced}
use Rattle.session_crashes.specs.Crashes.{LeavesState}
use Rattle.state_notes.specs.Notes.{StoreNote}
use Rattle.store_core.specs.Store.{StoreSeen}
use Rattle.told_store.specs.Told.{IsFirst}

-- The disk showed a sound log of these events, and was synced. Noted is their journal, each entry by nobody, with nothing in doubt and no turn so far,
-- and a crash now leaves it.
pub record OpensTold (old : DiskSeen) (store : StoreSeen) (note : StoreNote) : Type 0 where
  pub events : List Event
  pub first : IsFirst store note
  pub entries : note.state.entries ≡ opened_journal events
  pub settled : note.state.doubt ≡ []
  pub leaves : LeavesState store.log.host note.state store.log.disk.history
  pub shown : Tells old (λ d. StandsFor current_form d.shows store.log.host (opened_journal events))
  pub synced : Synced old store.log.disk
