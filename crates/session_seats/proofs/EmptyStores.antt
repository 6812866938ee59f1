-- The turns of a store that has no entries.
use Rattle.std.proofs.Common.{◌≡◌, ℕ, ◌<◌, ◌≤◌, ◌^◌, ℤ, false, List, [], ◌∷◌, length, Option, None, refl, sym, subst, ◌∙◌, arith}
use Rattle.std.proofs.lemmas.Bool.{true≢false}
use Rattle.std.proofs.lemmas.List.Elements.{All-nil, All-cons}
use Rattle.definitions.specs.Uses.{Used, used_nothing, read_clock}
use Rattle.definitions.proofs.Counts.{RoseBy-nothing}
use Rattle.at_edge.specs.Drawing.{EntropySeen}
use Rattle.at_edge.specs.Telling.{ClockSeen, Told}
use Rattle.at_edge.proofs.EntropyLaws.{Drew-nothing}
use Rattle.record_rules.specs.Records.{Entry}
use Rattle.record_rules.specs.Journal.{ChainCount}
use Rattle.definitions.specs.Limits.{most_tag_bytes}
use Rattle.session_rules.specs.Within.{ShowsWithin}
use Rattle.step_rules.specs.Calls.{Call, end_call, status_call}
use Rattle.step_rules.specs.Answers.{refused, no_memory, unknown_id, places, Answer}
use Rattle.step_rules.specs.Step.{shows_places, Step, unknown_step, end_unknown}
use Rattle.step_rules.specs.Turn.{Turn, read_turn, short_unread_turn, step_turn}
use Rattle.session_rules.specs.Sessions.{a_call, to_call, caller_of, is_of}
use Rattle.session_rules.specs.Passes.{tells_disk_fault}
use Rattle.session_rules.specs.Turns.{answers_call}
use Rattle.record_model.specs.declared.asking.Call as asked
use Rattle.record_model.specs.declared.asking.Call.TheVariants as asks
use Rattle.model_words.specs.Seen.{call_seen}
use Rattle.session_seats.specs.Stores.{HasTurn, AnswersIn, FrontTold}
use Rattle.call_supplies.specs.Supplies.{supplies}
use Rattle.session_seats.specs.Answering.{AnswersCall}
use Rattle.session_seats.specs.EmptyStores.{blind_store, empty_state, empty_store}
use Rattle.session_seats.proofs.SupplyLaws.{Uses-nothing}

stays : HasTurn empty_store empty_store empty_state empty_state
stays = record {
  named = λ none. omega (arith, none);
  since = [];
  found_is = refl;
  of_others = All-nil (λ (entry : Entry). is_of 1 entry ≡ false);
  counted = omega arith;
  fixed = refl;
  left_is = refl;
  left_faults = refl;
  alone = λ _. (refl, refl);
  crash = λ _. refl;
  turns = tt;
}

pub front_is_none : FrontTold empty_store empty_store 0
front_is_none = record { found = empty_state; left = empty_state; turn = stays; rests = record { journal_is = refl; doubt_is = refl }; counted = omega arith; front_is = refl }

answered : (number : ℕ) (call : Call) (used : Used) (answer : Answer) → tells_disk_fault (to_call answer) ≡ false → Turn blind_store [] [] (caller_of 1 number) call used [] [] (record { front = 0; answer = answer })
    → AnswersIn empty_store empty_store number (a_call call) used (record { front = 0; answer = answer })
answered number call used answer none turn = record {
  found = empty_state;
  left = empty_state;
  turn = stays;
  answers = record { answers = answers_call call (record { front = 0; answer = answer }) refl turn refl; counted = omega arith; told = λ fault. absurd (true≢false (sym fault ∙ none)) };
  front = refl;
}

-- and that is little enough
pub few_places : (found : List ChainCount) → found ≡ [] → ShowsWithin (places found)
few_places found none = subst (λ (l : List ChainCount). ShowsWithin (places l)) (sym none) (omega arith, All-nil (λ (chain : ChainCount). length chain.tag ≤ most_tag_bytes))

module _ (rand : EntropySeen) (clock : ClockSeen) (number : ℕ) where
  -- memory is wanting for any call
  pub wants_always : (call : Call) → AnswersCall empty_store empty_store (supplies rand clock) (supplies rand clock) number call (record { front = 0; answer = refused no_memory })
  wants_always call = (used_nothing, answered number call used_nothing (refused no_memory) refl (short_unread_turn refl (record { journal_is = refl; doubt_is = refl; reply_is = refl })), Uses-nothing (supplies rand clock))

  -- there are no chains
  no_places : (found : List ChainCount) → found ≡ [] → AnswersCall empty_store empty_store (supplies rand clock) (supplies rand clock) number status_call (record { front = 0; answer = places found })
  no_places found none = subst (λ (l : List ChainCount). AnswersCall empty_store empty_store (supplies rand clock) (supplies rand clock) number status_call (record { front = 0; answer = places l })) (sym none) (used_nothing, answered number status_call used_nothing (places []) refl (read_turn (places []) refl (shows_places refl refl) (record { journal_is = refl; doubt_is = refl; reply_is = refl })), Uses-nothing (supplies rand clock))

  -- nothing runs that could end
  none_ends : (clock_new : ClockSeen) (id : ℕ) (duration exit : ℤ) (now : ℕ) → now < 2 ^ 64 → Told clock clock_new (now ∷ [])
      → AnswersCall empty_store empty_store (supplies rand clock) (supplies rand clock_new) number (end_call id duration exit None) (record { front = 0; answer = refused (unknown_id id) })
  none_ends clock_new id duration exit now short told =
      let step : Step blind_store [] (caller_of 1 number) (end_call id duration exit None) (read_clock now) [] (refused (unknown_id id)) =
      unknown_step now (unknown_id id) refl refl (end_unknown id duration exit None refl refl refl) (record { stays = refl; answer_is = refl }) in (
        read_clock now,
        answered number (end_call id duration exit None) (read_clock now) (refused (unknown_id id)) refl (step_turn [] (refused (unknown_id id)) refl step (record { journal_is = refl; doubt_is = refl; reply_is = refl })),
        record {
          fits = (All-cons (λ (t : ℕ). t < 2 ^ 64) now [] short (All-nil (λ (t : ℕ). t < 2 ^ 64)), λ i. omega arith);
          drew = Drew-nothing rand;
          failed = RoseBy-nothing rand.faults;
          told = told;
        },
      )

  -- the same of a call of the program
  pub status_answered : (call : asked.Call) (found : List ChainCount) → call ≡ asks.Status → found ≡ [] → AnswersCall empty_store empty_store (supplies rand clock) (supplies rand clock) number (call_seen call) (record { front = 0; answer = places found })
  status_answered call found is none = subst (λ (x : asked.Call). AnswersCall empty_store empty_store (supplies rand clock) (supplies rand clock) number (call_seen x) (record { front = 0; answer = places found })) (sym is) (no_places found none)

  pub end_answered : (clock_new : ClockSeen) (call : asked.Call) (id : ℕ) (duration exit : ℤ) (author : Option (List ℕ)) (now : ℕ) → call ≡ asks.End id duration exit author → author ≡ None → now < 2 ^ 64 → Told clock clock_new (now ∷ [])
      → AnswersCall empty_store empty_store (supplies rand clock) (supplies rand clock_new) number (call_seen call) (record { front = 0; answer = refused (unknown_id id) })
  end_answered clock_new call id duration exit author now is none short told =
      subst (λ (x : asked.Call). AnswersCall empty_store empty_store (supplies rand clock) (supplies rand clock_new) number (call_seen x) (record { front = 0; answer = refused (unknown_id id) })) (sym is)
      (subst (λ (a : Option (List ℕ)). AnswersCall empty_store empty_store (supplies rand clock) (supplies rand clock_new) number (end_call id duration exit a) (record { front = 0; answer = refused (unknown_id id) })) (sym none)
      (none_ends clock_new id duration exit now short told))
