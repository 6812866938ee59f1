-- What is asked of a store for an owner, in one turn, and what it answers.
use Rattle.std.specs.Prelude.{◌≡◌, ◌≢◌, ◌⊎◌, ℕ, ◌≤◌, List, ◌++◌, true, false, All, Option, None, ⊤}
use Rattle.definitions.specs.Uses.{used_nothing}
use Rattle.disk_rules.specs.History.{History}
use Rattle.record_rules.specs.Records.{Entry}
use Rattle.step_rules.specs.ReadTurns.{StoreRead, ReadAnswer, told_page}
use Rattle.session_rules.specs.Sessions.{Asked, a_read, SessionAnswer, to_read, caller_of, is_of}
use Rattle.session_rules.specs.Stores.{StoreState, StoreTurn}
use Rattle.session_crashes.specs.Crashes.{LeavesState, TurnLeaves}
use Rattle.session_seats.specs.Stores.{StoreSeen, store_turn, AddsTurn}

-- ---- a turn

-- In a turn the store is found as it was seen, with entries of others behind, and no fewer faults; and it is seen as it is left. A store that one
-- caller has is found as it was left. Where a crash before the turn would leave what was seen, one within it leaves that or what the turn leaves, and
-- one behind it the latter.
pub record ServedTurn (old new : StoreSeen) (found left : StoreState) : Type 0 where
  pub named : old.fixed.number ≢ 0
  pub since : List Entry
  pub found_is : found.entries ≡ old.state.entries ++ since
  pub of_others : All (λ (entry : Entry). is_of old.fixed.number entry ≡ false) since
  pub counted : old.state.faults ≤ found.faults
  pub fixed : new.fixed ≡ old.fixed
  pub left_is : left.entries ≡ new.state.entries
  pub left_faults : left.faults ≡ new.state.faults
  pub alone : old.fixed.alone ≡ true → (found ≡ old.state) × (left ≡ new.state)
  pub crash : old.fixed.alone ≡ true → LeavesState old.fixed.keyed.host old.state old.history → TurnLeaves old.fixed.keyed.host old.state new.state old.history new.history
  pub turns : AddsTurn old.turns (store_turn found left) new.turns

-- ---- what is asked

-- two pages of records that were read
abbrev pub ArePages : (one other : SessionAnswer) → Type 0
ArePages (to_read (told_page records)) (to_read (told_page others)) = ⊤
ArePages _ _ = ⊥

-- The answer is the one that the turn gives. Which records a page has that is read is said only of a store that tells what its disk holds.
abbrev pub IsGiven : Option History → (given answer : SessionAnswer) → Type 0
IsGiven history given answer = (answer ≡ given) ⊎ ((history ≡ None) × ArePages given answer)

-- What is asked in the call of this number is answered in one turn, which uses neither clock nor random bytes.
pub record AnswersAsked (old new : StoreSeen) (call : ℕ) (asked : Asked) (answer : SessionAnswer) : Type 0 where
  pub found : StoreState
  pub left : StoreState
  pub turn : ServedTurn old new found left
  pub given : SessionAnswer
  pub answers : StoreTurn old.fixed.keyed found (caller_of old.fixed.number call) asked used_nothing left given
  pub told : IsGiven old.history given answer

-- so is a read, in whatever call it is asked
abbrev pub AnswersRead : StoreSeen → StoreSeen → StoreRead → ReadAnswer → Type 0
AnswersRead old new read answer = (call : ℕ) → AnswersAsked old new call (a_read read) (to_read answer)
