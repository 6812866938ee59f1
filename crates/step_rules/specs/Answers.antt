-- What a call is answered: what was asked for, or why it is refused.
use Rattle.std.specs.Prelude.{ℕ, List, Option}
use Rattle.definitions.specs.Journal.{HistoryRecord}
use Rattle.record_rules.specs.Journal.{ChainCount, PassedLimit}
use Rattle.view_rules.specs.Answers.{Named}

-- why a call is refused, in the order of their numbers from 1
pub data Refusal : Type 0 where
  -- the field of the text, and its length in bytes
  too_long : (field length : ℕ) → Refusal
  unknown_id : (id : ℕ) → Refusal
  unknown_name : (name : List ℕ) → Refusal
  -- a limit of the owner, 1 of entries, 2 of weight, 3 of places, and the number held
  full : PassedLimit → Refusal
  random_fault : Refusal
  -- the id that was drawn
  id_taken : (id : ℕ) → Refusal
  disk_fault : Refusal
  no_memory : Refusal
  -- the place of the first byte that is no call's
  bad_request : (place : ℕ) → Refusal

pub data Answer : Type 0 where
  -- the id of the command that was started
  began : (id : ℕ) → Answer
  -- the idx of the record that was stored, from 0
  stored : (idx : ℕ) → Answer
  hits : List HistoryRecord → Answer
  value_is : Option (List ℕ) → Answer
  keys : List (List ℕ) → Answer
  aliases : List Named → Answer
  places : List ChainCount → Answer
  refused : Refusal → Answer

-- an answer with the number of entries of the journal at which it was given, those of the call's own commit counted
pub record Reply : Type 0 where
  pub front : ℕ
  pub answer : Answer
