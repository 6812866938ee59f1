-- A call that is told of a store is one turn of a store that nobody else has.
use Rattle.std.proofs.Common.{◌≡◌, ℕ, ◌≤◌, true, List, [], ◌∷◌, ◌++◌, length, Option, Some, None, refl, sym, ap, ◌∙◌, append-nil, subst, arith}
use Rattle.std.specs.Option.{unwrap_or, is_some}
use Rattle.step_rules.specs.Calls.{Call}
use Rattle.step_rules.specs.Answers.{Reply}
use Rattle.step_rules.specs.Sealing.{keyed_store}
use Rattle.session_rules.specs.Sessions.{caller_of}
use Rattle.session_rules.specs.Stores.{StoreState}
use Rattle.record_seal.proofs.StoreSealing.{record_sealing}
use Rattle.call_supplies.specs.Supplies.{Supplies}
use Rattle.session_crashes.specs.Crashes.{LeavesState, TurnLeaves}
use Rattle.session_crashes.proofs.Runs.{quiet_turn_leaves}
use Rattle.session_seats.specs.Stores.{HasTurn, FrontTold}
use Rattle.session_seats.specs.Answering.{AnswersCall}
use Rattle.store_core.specs.Store as core
use Rattle.told_store.specs.Told.{ToldSeen, CallTold, HasRested, AddsTurn}
use Rattle.lone_store.specs.Lone.{lone_fixed, lone_seen}

-- what never changes
same_fixed : (old new : core.StoreSeen) → new.log.host ≡ old.log.host → new.key ≡ old.key → lone_fixed new ≡ lone_fixed old
same_fixed old new host key = λ i. record { keyed = keyed_store record_sealing (host i) (unwrap_or (key i) []); has_key = is_some (key i); number = 1; alone = true }

lone_turn : (old new : ToldSeen) → new.store.log.host ≡ old.store.log.host → new.store.key ≡ old.store.key → TurnLeaves old.store.log.host old.note.state new.note.state old.store.log.disk.history new.store.log.disk.history
    → AddsTurn old.note new.note → HasTurn (lone_seen old) (lone_seen new) old.note.state new.note.state
lone_turn old new host key leaves added = record {
  named = λ e. absurd cc;
  since = [];
  found_is = sym (append-nil old.note.state.entries);
  of_others = λ k d below. absurd (omega arith);
  counted = omega arith;
  fixed = same_fixed old.store new.store host key;
  left_is = refl;
  left_faults = refl;
  alone = λ _. (refl, refl);
  crash = λ _. leaves;
  turns = added;
}

pub lone_answers : (old new : ToldSeen) (before after : Supplies) (number : ℕ) (call : Call) (reply : Reply) → CallTold old.store old.note new.store new.note before after (caller_of 1 number) call reply
    → new.store.log.host ≡ old.store.log.host → new.store.key ≡ old.store.key → AnswersCall (lone_seen old) (lone_seen new) before after number call reply
lone_answers old new before after number call reply told host key =
    (told.used, record { found = old.note.state; left = new.note.state; turn = lone_turn old new host key told.leaves told.added; answers = told.turn; front = told.front }, told.uses)

-- a turn that writes nothing
rested_leaves : (old new : ToldSeen) → new.store ≡ old.store → LeavesState new.store.log.host new.note.state new.store.log.disk.history → TurnLeaves old.store.log.host old.note.state new.note.state old.store.log.disk.history new.store.log.disk.history
rested_leaves old new same leaves =
    subst (λ (s : core.StoreSeen). TurnLeaves old.store.log.host old.note.state new.note.state old.store.log.disk.history s.log.disk.history) (sym same)
    (quiet_turn_leaves old.store.log.host old.note.state new.note.state old.store.log.disk.history (subst (λ (s : core.StoreSeen). LeavesState s.log.host new.note.state s.log.disk.history) same leaves))

pub lone_front : (old new : ToldSeen) (front : ℕ) → HasRested old.note new.note → new.store ≡ old.store → LeavesState new.store.log.host new.note.state new.store.log.disk.history → front ≡ length new.note.state.entries
    → FrontTold (lone_seen old) (lone_seen new) front
lone_front old new front rests same leaves told = record {
  found = old.note.state;
  left = new.note.state;
  turn = lone_turn old new (ap (λ (s : core.StoreSeen). s.log.host) same) (ap (λ (s : core.StoreSeen). s.key) same) (rested_leaves old new same leaves) rests.turn;
  rests = record { journal_is = ap (λ (s : StoreState). s.entries) rests.stays; doubt_is = ap (λ (s : StoreState). s.doubt) rests.stays };
  counted = let same_count : new.note.state.faults ≡ old.note.state.faults = ap (λ (s : StoreState). s.faults) rests.stays in omega (arith, same_count);
  front_is = told;
}

-- a key is there
pub key_some : (key : Option (List ℕ)) → is_some key ≡ true → key ≡ None → ⊥
key_some None is e = absurd cc
key_some (Some k) is e = absurd cc
