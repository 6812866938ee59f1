-- What a told store does while the pass has the turn is one turn of the pass.
use Rattle.std.proofs.Common.{◌≡◌, ℕ, ◌<◌, ◌≤◌, ◌^◌, List, [], ◌∷◌, length, Vec, Global, Result, Ok, Err, refl, sym, ◌∙◌, ap, subst, arith}
use Rattle.std.specs.Prelude.{IfSome}
use Rattle.std.specs.Option.{unwrap_or}
use Rattle.definitions.specs.Counts.{Rose}
use Rattle.definitions.specs.Uses.{used_nothing}
use Rattle.record_rules.specs.Records.{Caller, Entry, SealedRecord}
use Rattle.step_rules.specs.Calls.{Call}
use Rattle.step_rules.specs.Answers.{Reply}
use Rattle.step_rules.specs.PageTurns.{PageAnswer}
use Rattle.step_rules.specs.ReadTurns.{status_read, read_faulted}
use Rattle.session_rules.specs.Sessions.{a_call, to_call, call_reply, a_page, to_page, caller_of}
use Rattle.session_rules.specs.Passes.{Pass}
use Rattle.session_rules.specs.Books.{MayGive, PassTakes, PassGives}
use Rattle.session_rules.specs.Stores.{StoreState, StoreTurn}
use Rattle.record_model.specs.declared.places.Chain.{Chain}
use Rattle.record_model.specs.declared.sealed.Record.{Record}
use Rattle.record_log.specs.declared.reading.ReadFail.{ReadFail}
use Rattle.record_log.specs.declared.reading.ReadFail.TheVariants as fails
use Rattle.call_supplies.specs.Supplies.{Supplies}
use Rattle.book_lock.specs.LockPasses.{LockPass, with_turn}
use Rattle.store_core.specs.Store.{StoreSeen}
use Rattle.told_store.specs.Told.{ToldSeen, CallTold}
use Rattle.told_store.specs.Asked.{PageTold, HasRead, AnswersRead, status_answer_seen, read_answer_seen}
use Rattle.shared_store.specs.Books.{fixed_of, book_of, keyed_by}
use Rattle.shared_store.specs.Turns.{CallOf, PageOf, ReadsIn, ReadOf}
use Rattle.shared_store.proofs.PassTurns.{may_leave, may_rest, turn_of, reads_in}

-- a store that keeps host and key keeps its fixed part
pub same_fixed : (old new : StoreSeen) → new.log.host ≡ old.log.host → new.key ≡ old.key → fixed_of new ≡ fixed_of old
same_fixed old new host key = λ i. host i ∷ unwrap_or (key i) []

-- a fault is told of a page that was read by its own answer alone, and of a status never
fault_read : (answer : Result (Vec Record Global) ReadFail) → read_answer_seen answer ≡ read_faulted → answer ≡ Err fails.DiskFault
fault_read (Ok records) e = absurd cc
fault_read (Err fails.DiskFault) e = refl
fault_read (Err fails.NoMemory) e = absurd cc

no_fault_of_status : {E : Type 0} (answer : Result (List Chain) E) → status_answer_seen answer ≡ read_faulted → ⊥
no_fault_of_status (Ok chains) e = absurd cc
no_fault_of_status (Err _) e = absurd cc

-- The pass took the turn and found a store, which is lent as it was.
module _ (old taken : LockPass) (found was store : ToldSeen) (lent : was ≡ found) (found_out : taken ≡ with_turn old (book_of found)) where
  out : taken ≡ with_turn old (book_of was)
  out = found_out ∙ ap (λ (t : ToldSeen). with_turn old (book_of t)) (sym lent)

  takes_it : PassTakes old.pass (book_of found) taken.pass → PassTakes old.pass (book_of was) taken.pass
  takes_it takes = subst (λ (t : ToldSeen). PassTakes old.pass (book_of t) taken.pass) (sym lent) takes

  -- the call is the pass's, and host and key stay
  module _ (number : ℕ) (caller : Caller) (own : caller ≡ caller_of old.pass.number number) (host : store.store.log.host ≡ was.store.log.host) (key : store.store.key ≡ was.store.key) where
    module _ (supplied supplies : Supplies) (call : Call) (reply : Reply) (told : CallTold was.store was.note store.store store.note supplied supplies caller call reply) where
      its_call : StoreTurn (keyed_by (fixed_of was.store)) was.note.state (caller_of old.pass.number number) (a_call call) told.used store.note.state (to_call reply.answer)
      its_call = subst (λ (c : Caller). StoreTurn (keyed_by (fixed_of was.store)) was.note.state c (a_call call) told.used store.note.state (to_call reply.answer)) own told.turn

      pub ask_leaves : reply.front < 2 ^ 64 → IfSome taken.out (λ found. MayGive taken.pass.number found (book_of store))
      ask_leaves fits =
          let front = told.front in
          may_leave old taken (fixed_of was.store) (fixed_of store.store) was.note.state store.note.state number (a_call call) told.used (to_call reply.answer) out (same_fixed was.store store.store host key) its_call (omega (arith, front, fits))

      pub call_of : (after : Pass) → PassTakes old.pass (book_of found) taken.pass → IfSome taken.out (λ found. PassGives taken.pass found (book_of store) after) → CallOf old.pass after supplied supplies number call reply
      call_of after takes gives = (
        told.used,
        turn_of old taken (fixed_of was.store) (fixed_of store.store) was.note.state store.note.state after number (a_call call) told.used (call_reply reply) (takes_it takes) out (same_fixed was.store store.store host key) its_call told.front gives,
        told.uses,
      )

    module _ (owner : ℕ) (records : List SealedRecord) (answer : PageAnswer) (told : PageTold was.store was.note store.store store.note caller owner records answer) where
      its_page : StoreTurn (keyed_by (fixed_of was.store)) was.note.state (caller_of old.pass.number number) (a_page owner records) used_nothing store.note.state (to_page answer)
      its_page = subst (λ (c : Caller). StoreTurn (keyed_by (fixed_of was.store)) was.note.state c (a_page owner records) used_nothing store.note.state (to_page answer)) own told.turn

      pub page_leaves : length store.note.state.entries < 2 ^ 64 → IfSome taken.out (λ found. MayGive taken.pass.number found (book_of store))
      page_leaves fits = may_leave old taken (fixed_of was.store) (fixed_of store.store) was.note.state store.note.state number (a_page owner records) used_nothing (to_page answer) out (same_fixed was.store store.store host key) its_page fits

      pub page_of : (after : Pass) → PassTakes old.pass (book_of found) taken.pass → IfSome taken.out (λ found. PassGives taken.pass found (book_of store) after) → PageOf old.pass after number owner records answer
      page_of after takes gives = (
        length store.note.state.entries,
        turn_of old taken (fixed_of was.store) (fixed_of store.store) was.note.state store.note.state after number (a_page owner records) used_nothing (record { front = length store.note.state.entries; answer = to_page answer }) (takes_it takes) out
            (same_fixed was.store store.store host key) its_page refl gives,
      )

  -- ---- reads

  module _ (reads : HasRead was.note store.store store.note) (host : store.store.log.host ≡ was.store.log.host) (key : store.store.key ≡ was.store.key) where
    pub read_leaves : PassTakes old.pass (book_of found) taken.pass → IfSome taken.out (λ book. MayGive taken.pass.number book (book_of store))
    read_leaves takes =
        let room : length was.note.state.entries < 2 ^ 64 = (takes_it takes).room in
        may_rest old taken (fixed_of was.store) (fixed_of store.store) was.note.state store.note.state out (same_fixed was.store store.store host key) reads.entries reads.counted (subst (λ (entries : List Entry). length entries < 2 ^ 64) (sym reads.entries) room)

    pub page_read_in : (answer : Result (Vec Record Global) ReadFail) (after : Pass) → (answer ≡ Err fails.DiskFault → Rose was.note.state.faults store.note.state.faults) → PassTakes old.pass (book_of found) taken.pass
        → IfSome taken.out (λ book. PassGives taken.pass book (book_of store) after) → ReadsIn old.pass after (read_answer_seen answer)
    page_read_in answer after failed takes gives =
        reads_in old taken (fixed_of was.store) (fixed_of store.store) was.note.state store.note.state after (read_answer_seen answer) (takes_it takes) out (same_fixed was.store store.store host key) reads.entries reads.doubt (λ e. failed (fault_read answer e)) gives

  pub status_leaves : store.note.state ≡ was.note.state → store.store ≡ was.store → PassTakes old.pass (book_of found) taken.pass → IfSome taken.out (λ book. MayGive taken.pass.number book (book_of store))
  status_leaves stays same takes =
      let room : length was.note.state.entries < 2 ^ 64 = (takes_it takes).room in
      let counted : store.note.state.faults ≡ was.note.state.faults = ap (λ (s : StoreState). s.faults) stays in
      may_rest old taken (fixed_of was.store) (fixed_of store.store) was.note.state store.note.state out (ap (λ (s : StoreSeen). fixed_of s) same) (ap (λ (s : StoreState). s.entries) stays) (omega (arith, counted))
      (subst (λ (s : StoreState). length s.entries < 2 ^ 64) (sym stays) room)

  pub status_of : {E : Type 0} (answer : Result (List Chain) E) (owner : ℕ) (after : Pass) → store.note.state ≡ was.note.state → store.store ≡ was.store → AnswersRead was.note store.note (status_read owner) (status_answer_seen answer)
      → PassTakes old.pass (book_of found) taken.pass → IfSome taken.out (λ book. PassGives taken.pass book (book_of store) after) → ReadOf old.pass after (status_read owner) (status_answer_seen answer)
  unfolding reads_in
  status_of answer owner after stays same answers takes gives = record {
    turn = reads_in old taken (fixed_of was.store) (fixed_of store.store) was.note.state store.note.state after (status_answer_seen answer) (takes_it takes) out (ap (λ (s : StoreSeen). fixed_of s) same)
        (ap (λ (s : StoreState). s.entries) stays) (ap (λ (s : StoreState). s.doubt) stays) (λ e. absurd (no_fault_of_status answer e)) gives;
    answers = answers;
  }
