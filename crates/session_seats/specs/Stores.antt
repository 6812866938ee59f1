-- What is seen of a store that is lent to a session, and what one turn at it does.
use Rattle.std.specs.Prelude.{◌≡◌, ◌≢◌, ℕ, ◌≤◌, List, [], ◌∷◌, ◌++◌, length, Bool, true, false, All, Option, Some, None, ⊤}
use Rattle.definitions.specs.Counts.{has_risen}
use Rattle.definitions.specs.Uses.{Used}
use Rattle.record_rules.specs.Records.{Entry}
use Rattle.step_rules.specs.Answers.{Reply}
use Rattle.step_rules.specs.Store.{KeyedStore}
use Rattle.step_rules.specs.PageTurns.{PageLeaves}
use Rattle.session_rules.specs.Sessions.{Asked, SessionRequest, SessionReply, to_call, caller_of, is_of}
use Rattle.session_rules.specs.Passes.{TurnItem, TurnsOf}
use Rattle.session_rules.specs.Stores.{StoreState, StoreTurn, RunTurn, IsRun, last_left, run_requests, run_used, run_replies}
use Rattle.disk_rules.specs.History.{History}
use Rattle.session_crashes.specs.Crashes.{TurnLeaves, RunLeaves}

-- What never changes: host, seals and what opens, whether a key was given, the number under which calls are made, and whether nobody else has turns
-- at the store.
pub record StoreFixed : Type 0 where
  pub keyed : KeyedStore
  pub has_key : Bool
  pub number : ℕ
  pub alone : Bool

-- The store as the last turn left it; the turns so far, and what its disk went through, each None where it doesn't tell of them. What is in doubt
-- is told of a store that is lent alone.
pub record StoreSeen : Type 0 where
  pub fixed : StoreFixed
  pub state : StoreState
  pub turns : Option (List TurnItem)
  pub history : Option History

-- the turn in which this store was found and that one was left
abbrev pub store_turn : StoreState → StoreState → TurnItem
store_turn found left = record { found = length found.entries; left = length left.entries; failed = has_risen found.faults left.faults }

-- one turn more, of a store that tells of its turns
abbrev pub AddsTurn : Option (List TurnItem) → TurnItem → Option (List TurnItem) → Type 0
AddsTurn None item after = ⊤
AddsTurn (Some before) item None = ⊥
AddsTurn (Some before) item (Some after) = after ≡ before ++ item ∷ []

-- a turn for each of these replies
abbrev pub TurnsTold : Option (List TurnItem) → List SessionReply → Option (List TurnItem) → Type 0
TurnsTold None replies after = ⊤
TurnsTold (Some before) replies None = ⊥
TurnsTold (Some before) replies (Some after) = TurnsOf before replies after

-- In a turn the store is found as it was seen, with entries of others behind, and no fewer faults; and it is seen as it is left. A store that is
-- lent alone is found as it was left, and a crash within the turn leaves it so or as the turn leaves it.
pub record HasTurn (old new : StoreSeen) (found left : StoreState) : Type 0 where
  pub named : old.fixed.number ≢ 0
  pub since : List Entry
  pub found_is : found.entries ≡ old.state.entries ++ since
  pub of_others : All (λ (entry : Entry). is_of old.fixed.number entry ≡ false) since
  pub counted : old.state.faults ≤ found.faults
  pub fixed : new.fixed ≡ old.fixed
  pub left_is : left.entries ≡ new.state.entries
  pub left_faults : left.faults ≡ new.state.faults
  pub alone : old.fixed.alone ≡ true → (found ≡ old.state) × (left ≡ new.state)
  pub crash : old.fixed.alone ≡ true → TurnLeaves old.fixed.keyed.host old.state new.state old.history new.history
  pub turns : AddsTurn old.turns (store_turn found left) new.turns

-- What is asked in the call of this number is answered in one turn, at the front that the turn leaves.
pub record AnswersIn (old new : StoreSeen) (call : ℕ) (asked : Asked) (used : Used) (reply : Reply) : Type 0 where
  pub found : StoreState
  pub left : StoreState
  pub turn : HasTurn old new found left
  pub answers : StoreTurn old.fixed.keyed found (caller_of old.fixed.number call) asked used left (to_call reply.answer)
  pub front : reply.front ≡ length left.entries

-- A turn that asks the store nothing but its front.
pub record FrontTold (old new : StoreSeen) (front : ℕ) : Type 0 where
  pub found : StoreState
  pub left : StoreState
  pub turn : HasTurn old new found left
  pub rests : PageLeaves found.entries found.doubt left.entries left.doubt
  pub counted : found.faults ≤ left.faults
  pub front_is : front ≡ length left.entries

-- A store that is lent alone made a run of turns, which leaves it as it is then seen. A crash within a turn leaves what the turn found or what it
-- leaves, and from its end on what it leaves.
pub record RunsAlone (old new : StoreSeen) (requests : List SessionRequest) (used : Used) (replies : List SessionReply) : Type 0 where
  pub turns : List RunTurn
  pub run : IsRun old.fixed.keyed old.fixed.number old.state turns
  pub left_is : last_left old.state turns ≡ new.state
  pub requests_are : run_requests turns ≡ requests
  pub used_is : run_used turns ≡ used
  pub replies_are : run_replies turns ≡ replies
  pub crash : RunLeaves old.fixed.keyed.host old.state turns old.history new.history
