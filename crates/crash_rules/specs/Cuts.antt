-- A worked example: the runs of a new log in which `ls` was started, and then its end was left in doubt.
use Rattle.std.specs.Prelude.{◌≡◌, List, [], ◌∷◌, Some, None}
use Rattle.record_rules.specs.Records.{Entry}
use Rattle.record_rules.specs.Examples.{ls_entry}
use Rattle.disk_rules.specs.History.{History}
use Rattle.log_rules.specs.Log.{old_form}
use Rattle.log_rules.specs.Examples.{new_log, ls_log, ended_log, ended_entry}
use Rattle.crash_rules.specs.Runs.{LogState, Appended, LeftInDoubt, WasSettled, Unchanged, MayEnd, last_state, run_commits, IsCutBetweenCommits}

abbrev pub new_state : LogState
new_state = record { journal = []; doubt = None }

-- the commits of the run, the last of which is in doubt
abbrev pub two_commits : List (List Entry)
two_commits = (ls_entry ∷ []) ∷ (ended_entry ∷ []) ∷ []

pub record WorkedCuts : Type 0 where
  -- whatever the disk went through, these are the state, the commits and what is in doubt after such calls
  pub in_doubt_then : (one two : History) → last_state new_state (record { end = Appended (ls_entry ∷ []); left = one } ∷ record { end = LeftInDoubt (ended_entry ∷ []); left = two } ∷ []) ≡ record { journal = ls_entry ∷ []; doubt = Some (ended_entry ∷ []) }
  pub one_commit : (one two : History) → run_commits new_state (record { end = Appended (ls_entry ∷ []); left = one } ∷ record { end = LeftInDoubt (ended_entry ∷ []); left = two } ∷ []) ≡ (ls_entry ∷ []) ∷ []
  -- once it is settled it is a commit too, however often settling failed
  pub both_commits : (one two three four : History) → run_commits new_state (record { end = Appended (ls_entry ∷ []); left = one } ∷ record { end = LeftInDoubt (ended_entry ∷ []); left = two } ∷ record { end = Unchanged; left = three } ∷ record { end = WasSettled; left = four } ∷ []) ≡ two_commits
  -- nothing is appended while it is in doubt
  pub not_in_doubt : MayEnd (record { journal = ls_entry ∷ []; doubt = Some (ended_entry ∷ []) }) (Appended (ended_entry ∷ [])) → ⊥
  -- the logs without a commit, with the first one and with both are cuts; another host's log is none, nor are both where there was one
  pub before : IsCutBetweenCommits old_form 1 [] two_commits (new_log old_form 1)
  pub between : IsCutBetweenCommits old_form 1 [] two_commits (ls_log old_form 1)
  pub behind : IsCutBetweenCommits old_form 1 [] two_commits ended_log
  pub other_host : IsCutBetweenCommits old_form 1 [] two_commits (new_log old_form 2) → ⊥
  pub too_many : IsCutBetweenCommits old_form 1 [] ((ls_entry ∷ []) ∷ []) ended_log → ⊥
