-- A read in one turn of a store, whatever store it is.
use Rattle.std.proofs.Common.{◌≡◌, ℕ, ◌≤◌, inl, inr, true, List, Vec, Global, Option, Some, None, Result, Ok, Err, refl}
use Rattle.std.specs.Prelude.{IfSome}
use Rattle.definitions.specs.Counts.{Rose}
use Rattle.definitions.specs.Uses.{used_nothing}
use Rattle.disk_rules.specs.History.{History}
use Rattle.record_rules.specs.Records.{Caller}
use Rattle.record_rules.specs.Answers.{page}
use Rattle.step_rules.specs.Store.{KeyedStore}
use Rattle.step_rules.specs.PageTurns.{PageLeaves}
use Rattle.step_rules.specs.ReadTurns.{StoreRead, status_read, page_read, ReadAnswer, told_status, told_page, read_faulted, read_no_memory, ReadTurn, tells_page, faults_on_page, wants_memory}
use Rattle.session_rules.specs.Sessions.{a_read, SessionAnswer, to_read}
use Rattle.session_rules.specs.Passes.{tells_disk_fault}
use Rattle.session_rules.specs.Stores.{StoreState, StoreTurn}
use Rattle.session_rules.specs.Turns.{answers_read}
use Rattle.record_model.specs.declared.places.Chain.{Chain}
use Rattle.record_model.specs.declared.sealed.Record.{Record}
use Rattle.record_model.specs.Seen.{chains_seen, records_seen}
use Rattle.record_log.specs.declared.reading.ReadFail.{ReadFail}
use Rattle.record_log.specs.declared.reading.ReadFail.TheVariants as fails
use Rattle.told_store.specs.Asked.{status_answer_seen, read_answer_seen}
use Rattle.server_routes.specs.Asking.{IsGiven}

-- a turn gives this answer, and that one is told
pub record Given (store : KeyedStore) (caller : Caller) (found left : StoreState) (history : Option History) (read : StoreRead) (answer : ReadAnswer) : Type 0 where
  pub given : SessionAnswer
  pub answers : StoreTurn store found caller (a_read read) used_nothing left given
  pub told : IsGiven history given (to_read answer)

module _ (store : KeyedStore) (caller : Caller) (found left : StoreState) (counted : found.faults ≤ left.faults) where
  read_turn : (read : StoreRead) (given : ReadAnswer) → ReadTurn found.entries found.doubt read left.entries left.doubt given → (tells_disk_fault (to_read given) ≡ true → Rose found.faults left.faults) → StoreTurn store found caller (a_read read) used_nothing left (to_read given)
  read_turn read given turn failed = record { answers = answers_read read given refl refl turn refl; counted = counted; told = failed }

  pub status_given : {E : Type 0} (history : Option History) (owner : ℕ) (answer : Result (List Chain) E) → ReadTurn found.entries found.doubt (status_read owner) left.entries left.doubt (status_answer_seen answer)
      → Given store caller found left history (status_read owner) (status_answer_seen answer)
  status_given history owner (Ok chains) turn = record { given = to_read (told_status (chains_seen chains)); answers = read_turn (status_read owner) (told_status (chains_seen chains)) turn (λ e. absurd cc); told = inl refl }
  status_given history owner (Err _) turn = record { given = to_read read_no_memory; answers = read_turn (status_read owner) read_no_memory turn (λ e. absurd cc); told = inl refl }

  module _ (owner host : ℕ) (tag : List ℕ) (start count : ℕ) (leaves : PageLeaves found.entries found.doubt left.entries left.doubt) where
    pub page_given : (history : Option History) (answer : Result (Vec Record Global) ReadFail) → IfSome history (λ _. ReadTurn found.entries found.doubt (page_read owner host tag start count) left.entries left.doubt (read_answer_seen answer)) → (answer ≡ Err fails.DiskFault → Rose found.faults left.faults)
        → Given store caller found left history (page_read owner host tag start count) (read_answer_seen answer)
    page_given None (Ok records) told failed = record {
      given = to_read (told_page (page found.entries owner host tag start count));
      answers = read_turn (page_read owner host tag start count) (told_page (page found.entries owner host tag start count)) (tells_page owner host tag start count refl leaves refl) (λ e. absurd cc);
      told = inr (refl, tt);
    }
    page_given (Some there) (Ok records) told failed = record {
      given = to_read (told_page (records_seen records.items));
      answers = read_turn (page_read owner host tag start count) (told_page (records_seen records.items)) told (λ e. absurd cc);
      told = inl refl;
    }
    page_given history (Err fails.DiskFault) told failed = record {
      given = to_read read_faulted;
      answers = read_turn (page_read owner host tag start count) read_faulted (faults_on_page owner host tag start count refl leaves refl) (λ _. failed refl);
      told = inl refl;
    }
    page_given history (Err fails.NoMemory) told failed = record {
      given = to_read read_no_memory;
      answers = read_turn (page_read owner host tag start count) read_no_memory (wants_memory (λ front. absurd cc) leaves refl) (λ e. absurd cc);
      told = inl refl;
    }
