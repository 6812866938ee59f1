-- What else is asked of a told store: a page of records that comes in, and reads.
use Rattle.std.specs.Prelude.{◌≡◌, ℕ, ◌≤◌, List, Vec, Result, Ok, Err}
use Rattle.std.specs.Global.{Global}
use Rattle.definitions.specs.Uses.{used_nothing}
use Rattle.record_rules.specs.Records.{Caller, SealedRecord}
use Rattle.step_rules.specs.PageTurns.{PageAnswer}
use Rattle.step_rules.specs.ReadTurns.{StoreRead, ReadAnswer, told_status, told_page, read_faulted, read_no_memory, ReadTurn}
use Rattle.session_rules.specs.Sessions.{a_page, to_page}
use Rattle.session_rules.specs.Stores.{StoreTurn}
use Rattle.session_crashes.specs.Crashes.{TurnLeaves}
use Rattle.record_model.specs.declared.places.Chain.{Chain}
use Rattle.record_model.specs.declared.sealed.Record.{Record}
use Rattle.record_model.specs.Seen.{chains_seen, records_seen}
use Rattle.record_log.specs.declared.reading.ReadFail.{ReadFail}
use Rattle.record_log.specs.declared.reading.ReadFail.TheVariants.{DiskFault, NoMemory}
use Rattle.state_notes.specs.Notes.{StoreNote}
use Rattle.store_core.specs.Store.{StoreSeen}
use Rattle.told_store.specs.Told.{IsTold, AddsTurn, keyed_by}

-- ---- a page that comes in

-- The page was one turn, from the state that was noted to the one that is, and used neither random source nor clock. A crash on the way leaves the
-- one or the other, and at its end that one.
pub record PageTold (was : StoreSeen) (before : StoreNote) (store : StoreSeen) (after : StoreNote) (caller : Caller) (owner : ℕ) (records : List SealedRecord) (answer : PageAnswer) : Type 0 where
  pub told : IsTold store after
  pub turn : StoreTurn (keyed_by was) before.state caller (a_page owner records) used_nothing after.state (to_page answer)
  pub added : AddsTurn before after
  pub leaves : TurnLeaves was.log.host before.state after.state was.log.disk.history store.log.disk.history

-- ---- reads

-- the answers
abbrev pub status_answer_seen : {E : Type 0} → Result (List Chain) E → ReadAnswer
status_answer_seen (Ok chains) = told_status (chains_seen chains)
status_answer_seen (Err _) = read_no_memory

abbrev pub read_answer_seen : Result (Vec Record Global) ReadFail → ReadAnswer
read_answer_seen (Ok records) = told_page (records_seen records.items)
read_answer_seen (Err DiskFault) = read_faulted
read_answer_seen (Err NoMemory) = read_no_memory

-- a turn came that left everything but the count of faults
pub record HasRead (before : StoreNote) (store : StoreSeen) (after : StoreNote) : Type 0 where
  pub told : IsTold store after
  pub entries : after.state.entries ≡ before.state.entries
  pub doubt : after.state.doubt ≡ before.state.doubt
  pub counted : before.state.faults ≤ after.state.faults
  pub added : AddsTurn before after

-- the read is answered so, from the state that was noted to the one that is
abbrev pub AnswersRead : StoreNote → StoreNote → StoreRead → ReadAnswer → Type 0
AnswersRead before after read answer = ReadTurn before.state.entries before.state.doubt read after.state.entries after.state.doubt answer
