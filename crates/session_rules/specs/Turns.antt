-- What a store answers in one turn, whatever it is asked.
use Rattle.std.specs.Prelude.{◌≡◌, ℕ, List, ◌⊎◌}
use Rattle.definitions.specs.Uses.{Used, used_nothing}
use Rattle.record_rules.specs.Records.{SealedRecord, Caller, Entry}
use Rattle.step_rules.specs.Calls.{Call}
use Rattle.step_rules.specs.Answers.{refused, no_memory, bad_request, Reply}
use Rattle.step_rules.specs.Store.{KeyedStore}
use Rattle.step_rules.specs.Turn.{Turn}
use Rattle.step_rules.specs.PageTurns.{PageAnswer, PageLeaves, PageTurn}
use Rattle.step_rules.specs.ReadTurns.{StoreRead, ReadAnswer, ReadTurn}
use Rattle.session_rules.specs.Sessions.{Asked, a_call, no_call, a_page, a_read, unrouted, SessionAnswer, to_call, to_page, to_read, to_unrouted, no_memory_code}

-- From the journal with the commit in doubt the request, in this caller's call, may use so much, leave these and be answered so. What asks
-- the store nothing has a turn too, for its front.
pub data TurnAnswers (store : KeyedStore) (journal doubt : List Entry) (caller : Caller) (asked : Asked) (used : Used) (after doubt_after : List Entry) (answer : SessionAnswer) : Type 0 where
  answers_call : (call : Call) (reply : Reply) → asked ≡ a_call call → Turn store journal doubt caller call used after doubt_after reply → answer ≡ to_call reply.answer → TurnAnswers store journal doubt caller asked used after doubt_after answer
  -- memory was wanting while the call was being read
  answers_unread : (call : Call) → asked ≡ a_call call → used ≡ used_nothing → PageLeaves journal doubt after doubt_after → answer ≡ to_call (refused no_memory) → TurnAnswers store journal doubt caller asked used after doubt_after answer
  answers_bad : (place : ℕ) → asked ≡ no_call place → used ≡ used_nothing → PageLeaves journal doubt after doubt_after → (answer ≡ to_call (refused (bad_request place))) ⊎ (answer ≡ to_call (refused no_memory)) → TurnAnswers store journal doubt caller asked used after doubt_after answer
  answers_page : (owner : ℕ) (records : List SealedRecord) (given : PageAnswer) → asked ≡ a_page owner records → used ≡ used_nothing → PageTurn journal doubt caller owner records after doubt_after given → answer ≡ to_page given → TurnAnswers store journal doubt caller asked used after doubt_after answer
  answers_read : (read : StoreRead) (given : ReadAnswer) → asked ≡ a_read read → used ≡ used_nothing → ReadTurn journal doubt read after doubt_after given → answer ≡ to_read given → TurnAnswers store journal doubt caller asked used after doubt_after answer
  answers_unrouted : (code : ℕ) → asked ≡ unrouted code → used ≡ used_nothing → PageLeaves journal doubt after doubt_after → (answer ≡ to_unrouted code) ⊎ (answer ≡ to_unrouted no_memory_code) → TurnAnswers store journal doubt caller asked used after doubt_after answer
