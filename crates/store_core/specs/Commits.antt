-- What settling, making room and committing make of a store.
use Rattle.std.specs.Prelude.{◌≡◌, ◌≢◌, ◌⊎◌, List, [], ◌++◌, map, None, Result, Ok, Err}
use Rattle.record_rules.specs.Records.{Entry}
use Rattle.record_rules.specs.Journal.{Sound, events_of}
use Rattle.log_rules.specs.Body.{body_bytes, IsBatch}
use Rattle.step_rules.specs.Turn.{settled}
use Rattle.record_model.specs.declared.entries.Caller as model
use Rattle.record_model.specs.declared.entries.Event as model_event
use Rattle.record_model.specs.Seen.{caller_seen}
use Rattle.record_log.specs.Ready.{ReadyBatch}
use Rattle.record_log.specs.Journals.{LeavesOneOfTwo, LeavesJournal}
use Rattle.store_tables.specs.declared.tables.Batch.{Batch}
use Rattle.store_tables.specs.Tables.{IsReadyBatch}
use Rattle.store_core.specs.Store.{StoreSeen, entry_by, entries_of, IsStoreOf}

-- nothing is in doubt any more, and what was is part of the journal; or it is still in doubt. Whatever a crash leaves on the way stands
-- for the journal with it or without it
abbrev pub Settles : {E : Type 0} → StoreSeen → StoreSeen → Result (Unit {0}) E → Type 0
Settles old new (Ok _) = (journal doubt : List Entry) → IsStoreOf old journal doubt → IsStoreOf new (settled journal doubt) [] × LeavesOneOfTwo journal doubt old.log new.log
Settles old new (Err _) = (journal doubt : List Entry) → IsStoreOf old journal doubt → IsStoreOf new journal doubt × (old.doubt ≢ None) × LeavesOneOfTwo journal doubt old.log new.log

-- nothing is in doubt, and with these events by the caller the journal is sound
abbrev pub MayMake : StoreSeen → List Entry → model.Caller → List model_event.Event → Type 0
MayMake store journal caller events = IsStoreOf store journal [] × Sound (journal ++ map (entry_by (caller_seen caller)) events) store.log.host

-- the batch may be committed: nothing is in doubt, the journal is sound with it, there is room for it, and these are its bytes
pub record MayCommit (store : StoreSeen) (journal : List Entry) (batch : Batch) (bytes : ReadyBatch) : Type 0 where
  pub is : IsStoreOf store journal []
  pub settled : store.doubt ≡ None
  pub placed : bytes.offset ≡ store.log.gate
  pub body : bytes.body ≡ body_bytes (events_of (entries_of batch))
  pub entries : IsBatch (events_of (entries_of batch))
  pub sound : Sound (journal ++ entries_of batch) store.log.host
  pub ready : IsReadyBatch store.key store.tables batch

-- the batch is lost, or it is in doubt, and so is what a crash leaves on the way
abbrev pub IsLostOrDoubted : StoreSeen → StoreSeen → List Entry → Batch → Type 0
IsLostOrDoubted old new journal batch = (IsStoreOf new journal [] × LeavesJournal journal old.log new.log) ⊎ (IsStoreOf new journal (entries_of batch) × LeavesOneOfTwo journal (entries_of batch) old.log new.log)

-- the batch is part of the journal; or it is lost, or in doubt. Whatever a crash leaves on the way stands for the journal with it or
-- without it
abbrev pub Commits : {E : Type 0} → StoreSeen → StoreSeen → Result (Unit {0}) E → Batch → ReadyBatch → Type 0
Commits old new (Ok _) batch bytes = (journal : List Entry) → MayCommit old journal batch bytes → IsStoreOf new (journal ++ entries_of batch) [] × LeavesOneOfTwo journal (entries_of batch) old.log new.log
Commits old new (Err _) batch bytes = (journal : List Entry) → MayCommit old journal batch bytes → IsLostOrDoubted old new journal batch
