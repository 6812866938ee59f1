-- A run of turns that began with nothing in doubt leaves something in doubt only where the disk's count rose.
use Rattle.std.proofs.Common.{◌≡◌, ◌⊎◌, inl, inr, ℕ, ◌≤◌, true, List, [], ◌∷◌, ◌∙◌, ap, arith}
use Rattle.definitions.specs.Counts.{Rose}
use Rattle.definitions.specs.Uses.{Used}
use Rattle.definitions.proofs.Counts.{Rose-later, Rose-earlier}
use Rattle.record_rules.specs.Records.{SealedRecord, Caller, Entry}
use Rattle.step_rules.specs.Calls.{Call}
use Rattle.step_rules.specs.Answers.{Reply}
use Rattle.step_rules.specs.Store.{KeyedStore}
use Rattle.step_rules.specs.Turn.{Turn, read_turn, short_unread_turn, unsettled_turn, step_turn, undrawn_turn, uncommitted_turn, short_turn, short_settled_turn}
use Rattle.step_rules.specs.PageTurns.{PageAnswer, PageTurn, unsettled_page, taken_page, refused_page, uncommitted_page, short_page, short_settled_page}
use Rattle.step_rules.proofs.ReadTurns.{ReadTurn-stands}
use Rattle.session_rules.specs.Sessions.{Asked, SessionAnswer, to_call, to_page, caller_of}
use Rattle.session_rules.specs.Passes.{tells_disk_fault}
use Rattle.session_rules.specs.Turns.{TurnAnswers, answers_call, answers_unread, answers_bad, answers_page, answers_read, answers_unrouted}
use Rattle.session_rules.specs.Stores.{StoreState, RunTurn, IsRun, last_left}

-- ---- a turn

module _ (store : KeyedStore) (journal doubt : List Entry) (caller : Caller) (used : Used) (after doubt_after : List Entry) (answer : SessionAnswer) (none : doubt ≡ []) where
  call_settles : (call : Call) (reply : Reply) → answer ≡ to_call reply.answer → Turn store journal doubt caller call used after doubt_after reply → (doubt_after ≡ []) ⊎ (tells_disk_fault answer ≡ true)
  call_settles call reply told (read_turn _ _ _ l) = inl (l.doubt_is ∙ none)
  call_settles call reply told (short_unread_turn _ l) = inl (l.doubt_is ∙ none)
  call_settles call reply told (unsettled_turn _ _ _ _ l) = inl (l.doubt_is ∙ none)
  call_settles call reply told (step_turn _ _ _ _ l) = inl l.doubt_is
  call_settles call reply told (undrawn_turn _ _ _ _ l) = inl l.doubt_is
  call_settles call reply told (uncommitted_turn _ _ _ _ _ _ _ l) = inr (ap tells_disk_fault told ∙ ap (λ (r : Reply). tells_disk_fault (to_call r.answer)) l.reply_is)
  call_settles call reply told (short_turn _ _ _ l) = inl (l.doubt_is ∙ none)
  call_settles call reply told (short_settled_turn _ _ l) = inl l.doubt_is

  page_settles : (owner : ℕ) (records : List SealedRecord) (given : PageAnswer) → answer ≡ to_page given → PageTurn journal doubt caller owner records after doubt_after given → (doubt_after ≡ []) ⊎ (tells_disk_fault answer ≡ true)
  page_settles owner records given told (unsettled_page _ l _) = inl (l.doubt_is ∙ none)
  page_settles owner records given told (taken_page _ _ l _) = inl l.doubt_is
  page_settles owner records given told (refused_page _ _ l _) = inl l.doubt_is
  page_settles owner records given told (uncommitted_page _ _ _ _ _ _ same) = inr (ap tells_disk_fault told ∙ ap (λ (g : PageAnswer). tells_disk_fault (to_page g)) same)
  page_settles owner records given told (short_page l _) = inl (l.doubt_is ∙ none)
  page_settles owner records given told (short_settled_page l _) = inl l.doubt_is

  turn_settles : (asked : Asked) → TurnAnswers store journal doubt caller asked used after doubt_after answer → (doubt_after ≡ []) ⊎ (tells_disk_fault answer ≡ true)
  turn_settles asked (answers_call call reply _ turn told) = call_settles call reply told turn
  turn_settles asked (answers_unread _ _ _ l _) = inl (l.doubt_is ∙ none)
  turn_settles asked (answers_bad _ _ _ l _) = inl (l.doubt_is ∙ none)
  turn_settles asked (answers_page owner records given _ _ turn told) = page_settles owner records given told turn
  turn_settles asked (answers_read read given _ _ turn _) = inl ((ReadTurn-stands journal doubt read after doubt_after given turn).doubt_is ∙ none)
  turn_settles asked (answers_unrouted _ _ _ l _) = inl (l.doubt_is ∙ none)

-- ---- a run

pub run_grows : (store : KeyedStore) (number : ℕ) (old : StoreState) (turns : List RunTurn) → IsRun store number old turns → old.faults ≤ (last_left old turns).faults
run_grows store number old [] run = omega arith
run_grows store number old (one ∷ more) run =
    let later : one.left.faults ≤ (last_left one.left more).faults = run_grows store number one.left more run.1 in
    let here : old.faults ≤ one.left.faults = run.0.turn.counted in
    omega (arith, here, later)

pub run_settles : (store : KeyedStore) (number : ℕ) (old : StoreState) (turns : List RunTurn) → old.doubt ≡ [] → IsRun store number old turns → ((last_left old turns).doubt ≡ []) ⊎ Rose old.faults (last_left old turns).faults
run_settles store number old [] none run = inl none
run_settles store number old (one ∷ more) none run =
    let turn = run.0.turn in
    let grown = run_grows store number one.left more run.1 in
    elim (turn_settles store old.entries old.doubt (caller_of number one.request.call) one.used one.left.entries one.left.doubt one.reply.answer none one.request.asked turn.answers) [
      | inl settled ↦ elim (run_settles store number one.left more settled run.1) [
        | inl still ↦ inl still
        | inr rose ↦ inr (Rose-later old.faults one.left.faults (last_left one.left more).faults turn.counted rose)
      ]
      | inr told ↦ inr (Rose-earlier old.faults one.left.faults (last_left one.left more).faults (turn.told told) grown)
    ]
