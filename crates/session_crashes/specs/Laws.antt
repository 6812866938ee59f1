-- What holds of these words, as statements. Each is the contract of the function of its name.
use Rattle.std.specs.Prelude.{ℕ, List, ◌++◌, Option}
use Rattle.disk_rules.specs.History.{History}
use Rattle.step_rules.specs.Store.{KeyedStore}
use Rattle.session_rules.specs.Stores.{StoreState, RunTurn, IsRun, last_left}
use Rattle.session_crashes.specs.Crashes.{LeavesState, RunLeaves, IsOfRun, IsBetween, with_doubt, AnswersStay}

-- at the end of a run whatever a crash may leave is of the store that its last turn left
abbrev pub RunEndsWithItsStore : Type 0
RunEndsWithItsStore = (host : ℕ) (first : StoreState) (turns : List RunTurn) (old new : Option History) → LeavesState host first old → RunLeaves host first turns old new → LeavesState host (last_left first turns) new

-- What is of a run begins with what stood first, and goes no further than what stands and is in doubt at its end.
abbrev pub RunIsBetween : Type 0
RunIsBetween = (store : KeyedStore) (number host : ℕ) (first : StoreState) (turns : List RunTurn) (bytes : List ℕ) → IsRun store number first turns → IsOfRun host first turns bytes → IsBetween host first.entries (with_doubt (last_left first turns)) bytes

-- Wherever a run is cut in two, what was answered before stays.
abbrev pub WhatWasAnsweredStays : Type 0
WhatWasAnsweredStays = (store : KeyedStore) (number host : ℕ) (first : StoreState) (answered more : List RunTurn) (old new : Option History) → IsRun store number first (answered ++ more) → LeavesState host first old → RunLeaves host first (answered ++ more) old new
    → AnswersStay host first answered more old new
