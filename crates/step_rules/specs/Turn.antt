-- A step on a disk that may fail: a commit whose last write or sync failed is in doubt, and the next writing call settles it first.
use Rattle.std.specs.Prelude.{◌≡◌, ◌≢◌, ℕ, List, [], ◌++◌, length, map, Bool, true, false, ◌⊎◌}
use Rattle.definitions.specs.Uses.{Used, used_nothing, read_clock, read_and_drew, read_and_failed}
use Rattle.record_rules.specs.Records.{Caller, Entry}
use Rattle.step_rules.specs.Calls.{Call, is_read}
use Rattle.step_rules.specs.Answers.{random_fault, disk_fault, no_memory, Answer, began, stored, hits, value_is, keys, aliases, places, refused, Reply}
use Rattle.step_rules.specs.Store.{KeyedStore}
use Rattle.step_rules.specs.Step.{Draft, draws, Ready, Shows, Step}

-- an entry of a commit in doubt, once it is settled: by no pass, for the pass and the call that made it
abbrev pub settled_entry : Entry → Entry
settled_entry entry = record { caller = record { number = 0; call = entry.caller.call; settled_for = entry.caller.number }; event = entry.event }

-- the journal with the commit in doubt settled; without one it is the journal
abbrev pub settled : List Entry → List Entry → List Entry
settled journal doubt = journal ++ map settled_entry doubt

-- whether the answer is a refusal
abbrev pub is_refusal : Answer → Bool
is_refusal (began id) = false
is_refusal (stored idx) = false
is_refusal (hits found) = false
is_refusal (value_is value) = false
is_refusal (keys found) = false
is_refusal (aliases found) = false
is_refusal (places found) = false
is_refusal (refused refusal) = true

-- these are what a turn leaves, and its reply: the answer at the journal that it leaves
pub record TurnLeaves (journal doubt after doubt_after : List Entry) (reply : Reply) (answer : Answer) : Type 0 where
  pub journal_is : after ≡ journal
  pub doubt_is : doubt_after ≡ doubt
  pub reply_is : reply ≡ record { front = length after; answer = answer }

-- What a writing call may have used of clock and random bytes where it fails at this journal: it has read the clock, and it has drawn only if
-- it was ready there.
pub data UsedBeforeFailing (store : KeyedStore) (journal : List Entry) (call : Call) (used : Used) : Type 0 where
  used_clock : (now : ℕ) → used ≡ read_clock now → UsedBeforeFailing store journal call used
  used_bytes : (now : ℕ) (draft : Draft) (drawn : List ℕ) → Ready store journal call draft → length drawn ≡ draws draft → used ≡ read_and_drew now drawn → UsedBeforeFailing store journal call used

-- From the journal with the commit in doubt, which is empty where there is none, the call may use so much, leave these and be answered so.
pub data Turn (store : KeyedStore) (journal doubt : List Entry) (caller : Caller) (call : Call) (used : Used) (after doubt_after : List Entry) (reply : Reply) : Type 0 where
  -- a read doesn't settle
  read_turn : (answer : Answer) → used ≡ used_nothing → Shows store journal call answer → TurnLeaves journal doubt after doubt_after reply answer → Turn store journal doubt caller call used after doubt_after reply
  -- memory was wanting while the call was read, or for what a read shows: the clock wasn't read
  short_unread_turn : used ≡ used_nothing → TurnLeaves journal doubt after doubt_after reply (refused no_memory) → Turn store journal doubt caller call used after doubt_after reply
  -- settling failed
  unsettled_turn : (now : ℕ) → is_read call ≡ false → doubt ≢ [] → used ≡ read_clock now → TurnLeaves journal doubt after doubt_after reply (refused disk_fault) → Turn store journal doubt caller call used after doubt_after reply
  -- what was in doubt is settled, and the call is a step from there
  step_turn : (made : List Entry) (answer : Answer) → is_read call ≡ false → Step store (settled journal doubt) caller call used made answer → TurnLeaves made [] after doubt_after reply answer → Turn store journal doubt caller call used after doubt_after reply
  -- the draw failed where the step would have drawn
  undrawn_turn : (now : ℕ) (draft : Draft) → Ready store (settled journal doubt) call draft → used ≡ read_and_failed now → TurnLeaves (settled journal doubt) [] after doubt_after reply (refused random_fault) → Turn store journal doubt caller call used after doubt_after reply
  -- the commit failed: it is lost, or in doubt
  uncommitted_turn : (batch left : List Entry) (answer : Answer) → is_read call ≡ false → is_refusal answer ≡ false → Step store (settled journal doubt) caller call used (settled journal doubt ++ batch) answer
      → (left ≡ []) ⊎ (left ≡ batch) → TurnLeaves (settled journal doubt) left after doubt_after reply (refused disk_fault) → Turn store journal doubt caller call used after doubt_after reply
  -- memory was wanting behind the clock, before settling, when nothing is drawn yet, or after it
  short_turn : (now : ℕ) → is_read call ≡ false → used ≡ read_clock now → TurnLeaves journal doubt after doubt_after reply (refused no_memory) → Turn store journal doubt caller call used after doubt_after reply
  short_settled_turn : is_read call ≡ false → UsedBeforeFailing store (settled journal doubt) call used → TurnLeaves (settled journal doubt) [] after doubt_after reply (refused no_memory) → Turn store journal doubt caller call used after doubt_after reply
