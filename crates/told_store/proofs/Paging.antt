-- What a page that comes in, and a read, make of a store's note.
use Rattle.std.proofs.Common.{◌≡◌, ℕ, ◌≤◌, true, List, [], ◌∷◌, ◌++◌, Vec, Global, Result, Ok, Err, refl, sym, ap, ◌∙◌, subst}
use Rattle.std.specs.Prelude.{IfOk}
use Rattle.definitions.specs.Counts.{Rose}
use Rattle.record_rules.specs.Records.{Caller, Entry, SealedRecord}
use Rattle.record_rules.specs.Journal.{status}
use Rattle.record_rules.specs.Answers.{page}
use Rattle.step_rules.specs.PageTurns.{PageLeaves}
use Rattle.step_rules.specs.ReadTurns.{status_read, page_read, told_status, told_page, read_faulted, read_no_memory, tells_status, tells_page, faults_on_page, wants_memory}
use Rattle.session_rules.specs.Sessions.{to_page}
use Rattle.session_rules.specs.Passes.{tells_disk_fault}
use Rattle.session_rules.specs.Stores.{StoreState}
use Rattle.session_rules.specs.Turns.{answers_page}
use Rattle.record_model.specs.declared.places.Chain.{Chain}
use Rattle.record_model.specs.declared.sealed.Record.{Record}
use Rattle.record_model.specs.Seen.{chains_seen, records_seen}
use Rattle.at_edge.specs.Storing.{Tells}
use Rattle.record_log.specs.declared.reading.ReadFail.{ReadFail}
use Rattle.record_log.specs.declared.reading.ReadFail.TheVariants as fails
use Rattle.page_reading.proofs.Standing.{tells_always}
use Rattle.state_notes.specs.Notes.{StoreNote}
use Rattle.store_core.specs.declared.pages.TakeFail.{TakeFail}
use Rattle.store_core.specs.declared.pages.TakeFail.TheVariants as takes
use Rattle.store_core.specs.Store.{StoreSeen, IsStoreOf}
use Rattle.store_core.specs.Calls.{TakesPage}
use Rattle.store_core.specs.Pages.{page_answer_seen, TellsPage}
use Rattle.store_core.proofs.Standing.{tells_map}
use Rattle.told_store.proofs.Leaving.{turn_leaves}
use Rattle.told_store.specs.Told.{IsTold, HasRested, turn_between}
use Rattle.told_store.specs.Asked.{PageTold, HasRead, AnswersRead, status_answer_seen, read_answer_seen}

-- ---- a page that comes in

-- a fault of the disk is told by its answer alone
fault_told : (answer : Result ℕ TakeFail) → tells_disk_fault (to_page (page_answer_seen answer)) ≡ true → answer ≡ Err takes.DiskFault
fault_told (Ok added) e = absurd cc
fault_told (Err (takes.Refused refusal)) e = absurd cc
fault_told (Err takes.DiskFault) e = refl
fault_told (Err takes.NoMemory) e = absurd cc

page_note : (was : StoreSeen) (before : StoreNote) (store : StoreSeen) (caller : Caller) (owner : ℕ) (records : List SealedRecord) (answer : Result ℕ TakeFail) → IsTold was before → TakesPage was store caller owner records (page_answer_seen answer)
    → (answer ≡ Err takes.DiskFault → Rose was.log.disk.faults store.log.disk.faults) → was.log.disk.faults ≤ store.log.disk.faults → store.log.host ≡ was.log.host
    → (note : StoreNote) × PageTold was before store note caller owner records (page_answer_seen answer)
page_note was before store caller owner records answer told takes faulted kept host =
    let turned = takes before.state.entries before.state.doubt told.is in
    let state : StoreState = record { entries = turned.0; doubt = turned.1; faults = store.log.disk.faults } in (
      record { state = state; turns = before.turns ++ turn_between before.state state ∷ [] },
      record {
        told = record { is = turned.2; counted = refl };
        turn = record {
          answers = answers_page owner records (page_answer_seen answer) refl refl turned.3 refl;
          counted = subst (λ (n : ℕ). n ≤ store.log.disk.faults) (sym told.counted) kept;
          told = λ e. subst (λ (n : ℕ). Rose n store.log.disk.faults) (sym told.counted) (faulted (fault_told answer e));
        };
        added = refl;
        leaves = turn_leaves was.log store before.state state turned.4 turned.2 host;
      },
    )

-- the same of what was noted before the call
pub page_note_of : (noted was : StoreSeen) (before : StoreNote) (store : StoreSeen) (caller : Caller) (owner : ℕ) (records : List SealedRecord) (answer : Result ℕ TakeFail) → noted ≡ was → IsTold was before
    → TakesPage was store caller owner records (page_answer_seen answer) → (answer ≡ Err takes.DiskFault → Rose was.log.disk.faults store.log.disk.faults) → was.log.disk.faults ≤ store.log.disk.faults → store.log.host ≡ was.log.host
    → (note : StoreNote) × PageTold noted before store note caller owner records (page_answer_seen answer)
page_note_of noted was before store caller owner records answer here told takes faulted kept host =
    let made = page_note was before store caller owner records answer told takes faulted kept host in
    (made.0, subst (λ (s : StoreSeen). PageTold s before store made.0 caller owner records (page_answer_seen answer)) (sym here) made.1)

-- ---- reads

pub read_note : (was : StoreSeen) (before : StoreNote) (store : StoreSeen) → IsTold was before → ((journal doubt : List Entry) → IsStoreOf was journal doubt → IsStoreOf store journal doubt) → was.log.disk.faults ≤ store.log.disk.faults
    → (note : StoreNote) × HasRead before store note
read_note was before store told same kept =
    let state : StoreState = record { entries = before.state.entries; doubt = before.state.doubt; faults = store.log.disk.faults } in (
      record { state = state; turns = before.turns ++ turn_between before.state state ∷ [] },
      record {
        told = record { is = same before.state.entries before.state.doubt told.is; counted = refl };
        entries = refl;
        doubt = refl;
        counted = subst (λ (n : ℕ). n ≤ store.log.disk.faults) (sym told.counted) kept;
        added = refl;
      },
    )

-- a fault that rose on the disk rose in what is noted
pub read_failed : (was : StoreSeen) (before : StoreNote) (store : StoreSeen) (note : StoreNote) → IsTold was before → HasRead before store note → Rose was.log.disk.faults store.log.disk.faults → Rose before.state.faults note.state.faults
read_failed was before store note told reads rose = subst (λ (n : ℕ). Rose n note.state.faults) (sym told.counted) (subst (λ (n : ℕ). Rose was.log.disk.faults n) (sym reads.told.counted) rose)

-- the read left all that it was answered from
leaves : (before note : StoreNote) (store : StoreSeen) → HasRead before store note → PageLeaves before.state.entries before.state.doubt note.state.entries note.state.doubt
leaves before note store reads = record { journal_is = reads.entries; doubt_is = reads.doubt }

pub page_read_told : (was : StoreSeen) (before : StoreNote) (store : StoreSeen) (note : StoreNote) (answer : Result (Vec Record Global) ReadFail) (owner host : ℕ) (tag : List ℕ) (start count : ℕ) → IsTold was before → HasRead before store note
    → ((journal doubt : List Entry) → IsStoreOf was journal doubt → TellsPage was.log answer journal owner host tag start count) → Tells was.log.disk (λ _. AnswersRead before note (page_read owner host tag start count) (read_answer_seen answer))
page_read_told was before store note (Ok records) owner host tag start count told reads tells =
    tells_map was.log.disk (λ _. records_seen records.items ≡ page before.state.entries owner host tag start count) (λ _. AnswersRead before note (page_read owner host tag start count) (told_page (records_seen records.items)))
    (λ _ are. tells_page owner host tag start count refl (leaves before note store reads) (ap told_page are)) (tells before.state.entries before.state.doubt told.is)
page_read_told was before store note (Err fails.DiskFault) owner host tag start count told reads tells =
    tells_always was.log.disk (λ _. AnswersRead before note (page_read owner host tag start count) read_faulted) (λ _. faults_on_page owner host tag start count refl (leaves before note store reads) refl)
page_read_told was before store note (Err fails.NoMemory) owner host tag start count told reads tells =
    tells_always was.log.disk (λ _. AnswersRead before note (page_read owner host tag start count) read_no_memory) (λ _. wants_memory (λ front. absurd cc) (leaves before note store reads) refl)

pub status_told : {E : Type 0} (store : StoreSeen) (before note : StoreNote) (answer : Result (List Chain) E) (owner : ℕ) → IsTold store before → HasRested before note
    → IfOk answer (λ chains. (journal doubt : List Entry) → IsStoreOf store journal doubt → chains_seen chains ≡ status journal owner) → AnswersRead before note (status_read owner) (status_answer_seen answer)
status_told store before note (Ok chains) owner told rests tells =
    tells_status owner refl (record { journal_is = ap (λ (s : StoreState). s.entries) rests.stays; doubt_is = ap (λ (s : StoreState). s.doubt) rests.stays }) (ap told_status (tells before.state.entries before.state.doubt told.is))
status_told store before note (Err _) owner told rests tells = wants_memory (λ front. absurd cc) (record { journal_is = ap (λ (s : StoreState). s.entries) rests.stays; doubt_is = ap (λ (s : StoreState). s.doubt) rests.stays }) refl
