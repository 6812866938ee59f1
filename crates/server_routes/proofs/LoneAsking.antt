-- What an owner asks of a store that one caller has is answered in one turn of it.
use Rattle.std.proofs.Common.{◌≡◌, ℕ, ◌≤◌, inl, true, List, [], Vec, Global, Result, Err, refl, sym, ap, append-nil, subst, arith}
use Rattle.std.specs.Option.{unwrap_or, is_some}
use Rattle.definitions.specs.Counts.{Rose}
use Rattle.record_rules.specs.Records.{SealedRecord}
use Rattle.step_rules.specs.PageTurns.{PageAnswer}
use Rattle.step_rules.specs.ReadTurns.{StoreRead, status_read, page_read, ReadAnswer}
use Rattle.step_rules.specs.Sealing.{keyed_store}
use Rattle.session_rules.specs.Sessions.{a_page, a_read, to_page, to_read, caller_of}
use Rattle.session_rules.specs.Stores.{StoreState}
use Rattle.record_seal.proofs.StoreSealing.{record_sealing}
use Rattle.record_model.specs.declared.places.Chain.{Chain}
use Rattle.record_model.specs.declared.sealed.Record.{Record}
use Rattle.record_log.specs.declared.reading.ReadFail.{ReadFail}
use Rattle.record_log.specs.declared.reading.ReadFail.TheVariants as fails
use Rattle.at_edge.specs.Storing.{Tells}
use Rattle.session_crashes.specs.Crashes.{LeavesState, TurnLeaves}
use Rattle.session_crashes.proofs.Runs.{quiet_turn_leaves}
use Rattle.store_core.specs.Store as core
use Rattle.told_store.specs.Told.{ToldSeen, HasRested, AddsTurn}
use Rattle.told_store.specs.Asked.{PageTold, HasRead, AnswersRead as ReadTold, status_answer_seen, read_answer_seen}
use Rattle.told_store.proofs.Leaving.{state_leaves}
use Rattle.lone_store.specs.Lone.{lone_fixed, lone_seen}
use Rattle.server_routes.specs.Asking.{ServedTurn, AnswersAsked, AnswersRead}
use Rattle.server_routes.proofs.GivenReads.{Given, status_given, page_given}

same_fixed : (old new : core.StoreSeen) → new.log.host ≡ old.log.host → new.key ≡ old.key → lone_fixed new ≡ lone_fixed old
same_fixed old new host key = λ i. record { keyed = keyed_store record_sealing (host i) (unwrap_or (key i) []); has_key = is_some (key i); number = 1; alone = true }

module _ (old new : ToldSeen) (host : new.store.log.host ≡ old.store.log.host) (key : new.store.key ≡ old.store.key) where
  lone_turn : (LeavesState old.store.log.host old.note.state old.store.log.disk.history → TurnLeaves old.store.log.host old.note.state new.note.state old.store.log.disk.history new.store.log.disk.history) → AddsTurn old.note new.note
      → ServedTurn (lone_seen old) (lone_seen new) old.note.state new.note.state
  lone_turn leaves added = record {
    named = λ e. absurd cc;
    since = [];
    found_is = sym (append-nil old.note.state.entries);
    of_others = λ k d below. absurd (omega arith);
    counted = omega arith;
    fixed = same_fixed old.store new.store host key;
    left_is = refl;
    left_faults = refl;
    alone = λ _. (refl, refl);
    crash = λ _. leaves;
    turns = added;
  }

  pub lone_page_taken : (number owner : ℕ) (records : List SealedRecord) (answer : PageAnswer) → PageTold old.store old.note new.store new.note (caller_of 1 number) owner records answer → AnswersAsked (lone_seen old) (lone_seen new) number (a_page owner records) (to_page answer)
  lone_page_taken number owner records answer told = record {
    found = old.note.state;
    left = new.note.state;
    turn = lone_turn (λ _. told.leaves) told.added;
    given = to_page answer;
    answers = told.turn;
    told = inl refl;
  }

  lone_given : (call : ℕ) (read : StoreRead) (answer : ReadAnswer) → ServedTurn (lone_seen old) (lone_seen new) old.note.state new.note.state → Given (lone_fixed old.store).keyed (caller_of 1 call) old.note.state new.note.state old.store.log.disk.history read answer
      → AnswersAsked (lone_seen old) (lone_seen new) call (a_read read) (to_read answer)
  lone_given call read answer turn g = record { found = old.note.state; left = new.note.state; turn = turn; given = g.given; answers = g.answers; told = g.told }

  -- a page, which is known where the disk tells what it holds
  pub lone_page : (owner at : ℕ) (tag : List ℕ) (start count : ℕ) (answer : Result (Vec Record Global) ReadFail) → HasRead old.note new.store new.note → new.store.log.disk.history ≡ old.store.log.disk.history
      → Tells old.store.log.disk (λ _. ReadTold old.note new.note (page_read owner at tag start count) (read_answer_seen answer)) → (answer ≡ Err fails.DiskFault → Rose old.note.state.faults new.note.state.faults)
      → AnswersRead (lone_seen old) (lone_seen new) (page_read owner at tag start count) (read_answer_seen answer)
  lone_page owner at tag start count answer reads same told failed call =
      let now : LeavesState old.store.log.host new.note.state old.store.log.disk.history =
      subst (λ h. LeavesState old.store.log.host new.note.state h) same (subst (λ (n : ℕ). LeavesState n new.note.state new.store.log.disk.history) host (state_leaves new.store new.note.state reads.told.is)) in
      let leaves : TurnLeaves old.store.log.host old.note.state new.note.state old.store.log.disk.history new.store.log.disk.history =
      subst (λ h. TurnLeaves old.store.log.host old.note.state new.note.state old.store.log.disk.history h) (sym same) (quiet_turn_leaves old.store.log.host old.note.state new.note.state old.store.log.disk.history now) in
      lone_given call (page_read owner at tag start count) (read_answer_seen answer) (lone_turn (λ _. leaves) reads.added)
      (page_given (lone_fixed old.store).keyed (caller_of 1 call) old.note.state new.note.state reads.counted owner at tag start count (record { journal_is = reads.entries; doubt_is = reads.doubt }) old.store.log.disk.history answer told failed)

-- the owner's status
pub lone_status : {E : Type 0} (old new : ToldSeen) (owner : ℕ) (answer : Result (List Chain) E) → HasRested old.note new.note → new.store ≡ old.store → ReadTold old.note new.note (status_read owner) (status_answer_seen answer) → AnswersRead (lone_seen old) (lone_seen new) (status_read owner) (status_answer_seen answer)
lone_status old new owner answer rests same reads call =
    let stays : new.note.state ≡ old.note.state = rests.stays in
    let host : new.store.log.host ≡ old.store.log.host = ap (λ (s : core.StoreSeen). s.log.host) same in
    let key : new.store.key ≡ old.store.key = ap (λ (s : core.StoreSeen). s.key) same in
    let leaves : LeavesState old.store.log.host old.note.state old.store.log.disk.history → TurnLeaves old.store.log.host old.note.state new.note.state old.store.log.disk.history new.store.log.disk.history =
    λ before.
    subst (λ (s : core.StoreSeen). TurnLeaves old.store.log.host old.note.state new.note.state old.store.log.disk.history s.log.disk.history) (sym same)
    (quiet_turn_leaves old.store.log.host old.note.state new.note.state old.store.log.disk.history (subst (λ (s : StoreState). LeavesState old.store.log.host s old.store.log.disk.history) (sym stays) before)) in
    let faults : new.note.state.faults ≡ old.note.state.faults = ap (λ (s : StoreState). s.faults) stays in
    let counted : old.note.state.faults ≤ new.note.state.faults = omega (arith, faults) in
    lone_given old new host key call (status_read owner) (status_answer_seen answer) (lone_turn old new host key leaves rests.turn)
    (status_given (lone_fixed old.store).keyed (caller_of 1 call) old.note.state new.note.state counted old.store.log.disk.history owner answer reads)
