-- Worked examples: a store without entries, in which `ls` is started.
use Rattle.std.specs.Prelude.{ℕ, List, [], ◌∷◌, ◌++◌, Some}
use Rattle.record_rules.specs.Examples.{ls_entry}
use Rattle.disk_rules.specs.Disk.{Disk}
use Rattle.disk_rules.specs.History.{History}
use Rattle.log_rules.specs.Log.{current_form}
use Rattle.log_rules.specs.Examples.{new_log}
use Rattle.session_rules.specs.Stores.{StoreState}
use Rattle.session_crashes.specs.Crashes.{IsOfState, LeavesState, TurnLeaves, RunLeaves, IsBetween}

abbrev pub without_entries : StoreState
without_entries = record { entries = []; doubt = []; faults = 0 }

abbrev pub with_ls : StoreState
with_ls = record { entries = ls_entry ∷ []; doubt = []; faults = 0 }

-- the disk counted a fault when its commit failed
abbrev pub in_doubt : StoreState
in_doubt = record { entries = []; doubt = ls_entry ∷ []; faults = 1 }

-- the log of the store without entries, with any bytes behind its closed gate
abbrev pub closed_log : List ℕ → List ℕ
closed_log behind = new_log current_form 1 ++ behind

-- all of it synced
abbrev pub at_rest : List ℕ → Disk
at_rest behind = record { synced = closed_log behind; written = []; shows = closed_log behind }

-- its gate was written over, and no sync came since
abbrev pub gate_unsynced : (behind shows : List ℕ) → Disk
gate_unsynced behind shows = record { synced = closed_log behind; written = record { at = 32; count = 1 } ∷ []; shows = shows }

abbrev pub started : (behind : List ℕ) → History
started behind = record { now = at_rest behind; before = [] }

-- a turn that ends with the disk as it was, whatever stands behind the gate; or with its gate unsynced, whatever the disk shows
pub record WorkedCrashes : Type 0 where
  pub at_first : (behind : List ℕ) → LeavesState 1 without_entries (Some (started behind))
  pub closed : (behind : List ℕ) → IsOfState 1 without_entries (closed_log behind)
  -- nothing was to be committed
  pub read : (behind : List ℕ) → TurnLeaves 1 without_entries without_entries (Some (started behind)) (Some (started behind))
  -- the start of `ls` can't be answered so: a crash would leave nothing of it
  pub unwritten : (behind : List ℕ) → TurnLeaves 1 without_entries with_ls (Some (started behind)) (Some (started behind)) → ⊥
  pub unsynced : (behind shows : List ℕ) → TurnLeaves 1 without_entries with_ls (Some (started behind)) (Some (record { now = gate_unsynced behind shows; before = at_rest behind ∷ [] })) → ⊥
  -- but where the commit is in doubt
  pub doubted : (behind : List ℕ) → TurnLeaves 1 without_entries in_doubt (Some (started behind)) (Some (started behind))
  -- a run has no moment between its turns
  pub nothing_between : (behind shows : List ℕ) → RunLeaves 1 without_entries [] (Some (started behind)) (Some (record { now = gate_unsynced behind shows; before = at_rest behind ∷ [] })) → ⊥
  -- since `ls` was answered nothing is left that lacks it
  pub not_before : (behind : List ℕ) → IsBetween 1 (ls_entry ∷ []) (ls_entry ∷ []) (closed_log behind) → ⊥
  pub not_behind : (behind : List ℕ) → IsBetween 1 [] (ls_entry ∷ []) (closed_log behind)
