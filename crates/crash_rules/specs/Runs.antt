-- A run of calls of a log: what a crash since its start may have left is the journal cut between two commits.
use Rattle.std.specs.Prelude.{◌≡◌, ℕ, ◌≤◌, ◌⊎◌, List, [], ◌∷◌, ◌++◌, length, take, Option, Some, None, ⊤}
use Rattle.std.specs.List.{flat_map, AllByRecursion}
use Rattle.record_rules.specs.Records.{Entry}
use Rattle.record_rules.specs.Journal.{events_of}
use Rattle.disk_rules.specs.Disk.{Disk, Leaves, IsDisk, Since}
use Rattle.disk_rules.specs.Calls.{Sync, Reaches, AllDone}
use Rattle.disk_rules.specs.Append.{append_calls, settle_calls}
use Rattle.disk_rules.specs.History.{History, Goes, Images, EachSince}
use Rattle.log_rules.specs.Body.{IsBatch}
use Rattle.log_rules.specs.Log.{Form, payload_bytes, StandsFor}
use Rattle.record_rules.specs.Journal.{Sound}
use Rattle.crash_rules.specs.Laws.{IsLog, IsImageOf}

-- ---- cut between commits

-- the entries of these commits, in order
abbrev pub entries_in : List (List Entry) → List Entry
entries_in commits = flat_map (λ (commit : List Entry). commit) commits

-- the bytes stand for the journal with some of the commits that followed it: in order, none skipped and none in part
pub record IsCutBetweenCommits (form : Form) (host : ℕ) (journal : List Entry) (commits : List (List Entry)) (bytes : List ℕ) : Type 0 where
  pub count : ℕ
  pub within : count ≤ length commits
  pub stands : StandsFor form bytes host (journal ++ entries_in (take count commits))

-- ---- a run

-- the journal of a log, and the batch in doubt behind it, if there is one
pub record LogState : Type 0 where
  pub journal : List Entry
  pub doubt : Option (List Entry)

-- how a call ended: these entries were appended; or a commit of them failed and is in doubt; what was in doubt was settled; or nothing
-- was committed and the state is as it was, as after a settling that failed
pub data CallEnd : Type 0 where
  Appended : List Entry → CallEnd
  LeftInDoubt : List Entry → CallEnd
  WasSettled : CallEnd
  Unchanged : CallEnd

abbrev pub commit_in_doubt : Option (List Entry) → List (List Entry)
commit_in_doubt None = []
commit_in_doubt (Some more) = more ∷ []

-- the commits with which a call ended
abbrev pub committed_by : LogState → CallEnd → List (List Entry)
committed_by state (Appended more) = more ∷ []
committed_by state (LeftInDoubt more) = []
committed_by state WasSettled = commit_in_doubt state.doubt
committed_by state Unchanged = []

-- the state afterwards
abbrev pub left_state : LogState → CallEnd → LogState
left_state state (Appended more) = record { journal = state.journal ++ more; doubt = None }
left_state state (LeftInDoubt more) = record { journal = state.journal; doubt = Some more }
left_state state WasSettled = record { journal = state.journal ++ entries_in (commit_in_doubt state.doubt); doubt = None }
left_state state Unchanged = state

-- nothing is appended while a batch is in doubt
abbrev pub MayEnd : LogState → CallEnd → Type 0
MayEnd state (Appended more) = state.doubt ≡ None
MayEnd state (LeftInDoubt more) = state.doubt ≡ None
MayEnd state WasSettled = ⊤
MayEnd state Unchanged = ⊤

-- the batch that the call may have left on the disk at one of its moments
abbrev pub under_way : LogState → CallEnd → Option (List Entry)
under_way state (Appended more) = Some more
under_way state (LeftInDoubt more) = Some more
under_way state WasSettled = state.doubt
under_way state Unchanged = state.doubt

-- a call of a run: how it ended, and the disk's history then
pub record LogCall : Type 0 where
  pub end : CallEnd
  pub left : History

-- from this state and history the call led to its own: at each moment since, each image was the journal's, or with the batch under way
pub record IsLogCall (form : Form) (host : ℕ) (state : LogState) (old : History) (call : LogCall) : Type 0 where
  pub may : MayEnd state call.end
  pub images : Goes (Images (IsImageOf form host state.journal (under_way state call.end))) old call.left

-- calls one after another
abbrev pub IsLogRun : Form → ℕ → LogState → History → List LogCall → Type 0
IsLogRun form host state old [] = ⊤
IsLogRun form host state old (call ∷ calls) = IsLogCall form host state old call × IsLogRun form host (left_state state call.end) call.left calls

-- the state and the history at the end of a run, and all its commits
abbrev pub last_state : LogState → List LogCall → LogState
last_state state [] = state
last_state state (call ∷ calls) = last_state (left_state state call.end) calls

abbrev pub last_history : History → List LogCall → History
last_history old [] = old
last_history old (call ∷ calls) = last_history call.left calls

abbrev pub run_commits : LogState → List LogCall → List (List Entry)
run_commits state [] = []
run_commits state (call ∷ calls) = committed_by state call.end ++ run_commits (left_state state call.end) calls

-- ---- laws

-- Each image since the start of a run is the journal at its start, with some of the commits since and the one in doubt at its end, in order, none skipped and
-- none in part.
abbrev pub RunIsCutBetweenCommits : Type 0
RunIsCutBetweenCommits = (form : Form) (host : ℕ) (journal : List Entry) (old : History) (calls : List LogCall) → Images (λ (left : List ℕ). StandsFor form left host journal) old.now → IsLogRun form host (record { journal = journal; doubt = None }) old calls
    → EachSince (IsCutBetweenCommits form host journal (run_commits (record { journal = journal; doubt = None }) calls ++ commit_in_doubt (last_state (record { journal = journal; doubt = None }) calls).doubt)) old (last_history old calls)

-- and the journal at its end is the one at its start with all commits
abbrev pub RunEndsWithCommits : Type 0
RunEndsWithCommits = (state : LogState) (calls : List LogCall) → (last_state state calls).journal ≡ state.journal ++ entries_in (run_commits state calls)

-- Settling what is in doubt, and then an append: each image since settling began is the journal, or with the batch that was in doubt, or with that and the new one.
abbrev pub SettleThenAppendIsCut : Type 0
SettleThenAppendIsCut = (form : Form) (prefix : List ℕ) (host : ℕ) (journal more next : List Entry) (old mid now : Disk) (left : List ℕ) → IsLog form prefix host journal (Some more) old → IsBatch (events_of next) → Sound ((journal ++ more) ++ next) host
    → Reaches (settle_calls (length prefix)) old now ⊎ (AllDone (settle_calls (length prefix)) old mid × Reaches (append_calls (length (prefix ++ 1 ∷ payload_bytes form (length prefix) (events_of more))) (payload_bytes form (length (prefix ++ 1 ∷ payload_bytes form (length prefix) (events_of more))) (events_of next))) mid now)
    → Leaves now left → IsCutBetweenCommits form host journal (more ∷ next ∷ []) left

-- Opening begins with a sync, and at each moment of it, whatever fails, nothing may be left that couldn't be left before.
abbrev pub OpeningLeavesNoMore : Type 0
OpeningLeavesNoMore = (old now : Disk) (left : List ℕ) → IsDisk old → Reaches (Sync ∷ []) old now → Leaves now left → Leaves old left

-- nor since it began
abbrev pub SinceOpeningLeavesNoMore : Type 0
SinceOpeningLeavesNoMore = (old : Disk) (moments before : List Disk) (left : List ℕ) → IsDisk old → AllByRecursion (Reaches (Sync ∷ []) old) moments → Since (length before) (moments ++ old ∷ before) left → Leaves old left
