-- What was answered in a session stays, whatever crash comes.
use Rattle.std.proofs.Common.{◌≡◌, ℕ, ◌⊎◌, inl, inr, List, ◌++◌, Option, Some, None, subst}
use Rattle.disk_rules.specs.Disk.{Disk, Leaves}
use Rattle.disk_rules.specs.History.{History, Images}
use Rattle.step_rules.specs.Store.{KeyedStore}
use Rattle.session_rules.specs.Stores.{StoreState, RunTurn, IsRun, last_left}
use Rattle.at_edge.specs.Storing.{Arrives}
use Rattle.at_edge.proofs.DiskRuns.{arrives_then, arrives_weaker}
use Rattle.record_log.specs.Opening.{LeavesNoMore}
use Rattle.session_crashes.specs.Crashes.{LeavesState, RunLeaves, LeftSinceOrThen, with_doubt, IsBetween, AnswersStay}
use Rattle.session_crashes.proofs.Runs.{left_since, run_between, answers_stay}
use Rattle.store_commands.specs.Piping.{CrashKeeps}

-- while the store is opened nothing is left that might not have been left before
since_opening : (is_so : List ℕ → Type 0) (old opened new : Option History) → LeavesNoMore old opened → Arrives (Images is_so) (λ _. Unit {0}) opened new → LeftSinceOrThen is_so old new
since_opening is_so None opened new opening run = subst (λ (seen : Option History). Arrives (Images is_so) (λ _. Unit {0}) seen new) opening run
since_opening is_so (Some old) opened new opening run =
    let before : Disk → Type 0 = λ disk. (left : List ℕ) → Leaves disk left → Leaves old.now left in
    let either : List ℕ → Type 0 = λ left. Leaves old.now left ⊎ is_so left in
    left_since either (Some old) new (λ left leaves. inl leaves)
    (arrives_then (Images either) (λ _. Unit {0}) (λ _. Unit {0}) (Some old) opened new
    (arrives_weaker (Images either) before (λ _. Unit {0}) (λ _. Unit {0}) (Some old) opened (λ disk no_more left leaves. inl (no_more left leaves)) (λ disk end. end) opening)
    (arrives_weaker (Images either) (Images is_so) (λ _. Unit {0}) (λ _. Unit {0}) opened new (λ disk images left leaves. inr (images left leaves)) (λ disk end. end) run))

module _ (store : KeyedStore) (number host : ℕ) (first last : StoreState) (turns : List RunTurn) (old opened new : Option History) where
  pub crash_keeps : IsRun store number first turns → last_left first turns ≡ last → LeavesNoMore old opened → LeavesState host first opened → RunLeaves host first turns opened new → CrashKeeps host first last turns old opened new
  crash_keeps run left_is opening start leaves = record {
    opening = opening;
    stays = λ answered more cut.
        answers_stay store number host first answered more opened new (subst (λ (all : List RunTurn). IsRun store number first all) cut run) start (subst (λ (all : List RunTurn). RunLeaves host first all opened new) cut leaves);
    since = subst (λ (end : StoreState). LeftSinceOrThen (IsBetween host first.entries (with_doubt end)) old new) left_is
        (since_opening (IsBetween host first.entries (with_doubt (last_left first turns))) old opened new opening (run_between store number host first turns opened new run leaves));
  }
