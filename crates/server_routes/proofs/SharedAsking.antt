-- What an owner asks of a store by a pass is answered in one turn of the pass.
use Rattle.std.proofs.Common.{◌≡◌, ◌≢◌, ℕ, inl, List, Vec, Global, None, Result, Err, refl, sym, ap}
use Rattle.definitions.specs.Counts.{Rose}
use Rattle.definitions.proofs.Counts.{has_risen-true}
use Rattle.record_rules.specs.Records.{SealedRecord}
use Rattle.step_rules.specs.PageTurns.{PageAnswer}
use Rattle.step_rules.specs.ReadTurns.{StoreRead, status_read, page_read, ReadAnswer, read_faulted}
use Rattle.session_rules.specs.Sessions.{a_page, a_read, to_page, to_read, caller_of}
use Rattle.session_rules.specs.Passes.{Pass}
use Rattle.session_rules.specs.Books.{PassTurn}
use Rattle.session_rules.specs.Stores.{StoreState}
use Rattle.record_model.specs.declared.places.Chain.{Chain}
use Rattle.record_model.specs.declared.sealed.Record.{Record}
use Rattle.record_log.specs.declared.reading.ReadFail.{ReadFail}
use Rattle.record_log.specs.declared.reading.ReadFail.TheVariants as fails
use Rattle.told_store.specs.Asked.{status_answer_seen, read_answer_seen}
use Rattle.shared_store.specs.Books.{keyed_by}
use Rattle.shared_store.specs.Turns.{book_at, PageOf, ReadsIn, ReadOf}
use Rattle.shared_store.specs.Callers.{shared_fixed, shared_seen}
use Rattle.server_routes.specs.Asking.{ServedTurn, AnswersAsked, AnswersRead}
use Rattle.server_routes.proofs.GivenReads.{Given, status_given, page_given}

module _ (old new : Pass) (named : old.number ≢ 0) where
  shared_turn : (found left : StoreState) → PassTurn old (book_at old found) (book_at old left) new → ServedTurn (shared_seen old) (shared_seen new) found left
  shared_turn found left turn = record {
    named = named;
    since = turn.finds.since;
    found_is = turn.finds.entries;
    of_others = turn.finds.of_others;
    counted = turn.finds.faults;
    fixed = ap (λ (p : Pass). shared_fixed p) turn.after_is;
    left_is = sym (ap (λ (p : Pass). p.seen) turn.after_is);
    left_faults = sym (ap (λ (p : Pass). p.faults) turn.after_is);
    alone = λ e. absurd cc;
    crash = λ e. absurd cc;
    turns = ap (λ (p : Pass). p.turns) turn.after_is;
  }

  pub shared_page_taken : (number owner : ℕ) (records : List SealedRecord) (answer : PageAnswer) → PageOf old new number owner records answer → AnswersAsked (shared_seen old) (shared_seen new) number (a_page owner records) (to_page answer)
  shared_page_taken number owner records answer page =
      let turn = page.1 in
      record { found = turn.found; left = turn.left; turn = shared_turn turn.found turn.left turn.pass; given = to_page answer; answers = turn.answers; told = inl refl }

  shared_given : (call : ℕ) (read : StoreRead) (answer : ReadAnswer) (found left : StoreState) → PassTurn old (book_at old found) (book_at old left) new → Given (keyed_by old.fixed) (caller_of old.number call) found left None read answer → AnswersAsked (shared_seen old) (shared_seen new) call (a_read read) (to_read answer)
  shared_given call read answer found left turn g = record { found = found; left = left; turn = shared_turn found left turn; given = g.given; answers = g.answers; told = g.told }

  pub shared_status : {E : Type 0} (owner : ℕ) (answer : Result (List Chain) E) → ReadOf old new (status_read owner) (status_answer_seen answer) → AnswersRead (shared_seen old) (shared_seen new) (status_read owner) (status_answer_seen answer)
  shared_status owner answer reads call =
      let turn = reads.turn in
      shared_given call (status_read owner) (status_answer_seen answer) turn.found turn.left turn.pass (status_given (keyed_by old.fixed) (caller_of old.number call) turn.found turn.left turn.pass.may.faults None owner answer reads.answers)

  -- the answer is told of a page
  fault_read : (answer : Result (Vec Record Global) ReadFail) → answer ≡ Err fails.DiskFault → read_answer_seen answer ≡ read_faulted
  fault_read answer e = ap (λ (r : Result (Vec Record Global) ReadFail). read_answer_seen r) e

  pub shared_page : (owner host : ℕ) (tag : List ℕ) (start count : ℕ) (answer : Result (Vec Record Global) ReadFail) → ReadsIn old new (read_answer_seen answer) → AnswersRead (shared_seen old) (shared_seen new) (page_read owner host tag start count) (read_answer_seen answer)
  shared_page owner host tag start count answer turn call =
      let failed : answer ≡ Err fails.DiskFault → Rose turn.found.faults turn.left.faults = λ e. has_risen-true turn.found.faults turn.left.faults (turn.failed (fault_read answer e)) in
      shared_given call (page_read owner host tag start count) (read_answer_seen answer) turn.found turn.left turn.pass
      (page_given (keyed_by old.fixed) (caller_of old.number call) turn.found turn.left turn.pass.may.faults owner host tag start count (record { journal_is = turn.entries; doubt_is = turn.doubt }) None answer tt failed)
