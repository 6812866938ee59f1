-- What a crash leaves of turns one after the other.
use Rattle.std.proofs.Common.{ℕ, ◌⊎◌, inl, inr, List, [], ◌∷◌, ◌++◌, Option, Some, None, refl, sym, subst}
use Rattle.std.specs.Prelude.{IfSome}
use Rattle.record_rules.specs.Records.{Entry}
use Rattle.disk_rules.specs.Disk.{Disk}
use Rattle.disk_rules.specs.History.{History, Images}
use Rattle.disk_rules.proofs.Histories.{goes_since}
use Rattle.step_rules.specs.Store.{KeyedStore}
use Rattle.session_rules.specs.Sessions.{caller_of}
use Rattle.session_rules.specs.Stores.{StoreState, RunTurn, IsRun, last_left}
use Rattle.at_edge.specs.Storing.{Arrives}
use Rattle.at_edge.proofs.DiskRuns.{arrives_nowhere, arrives_then, arrives_weaker, arrived}
use Rattle.session_crashes.specs.Crashes.{IsOfState, LeavesState, TurnLeaves, RunLeaves, IsOfRun, LeftSince, with_doubt, IsBetween, AnswersStay}
use Rattle.session_crashes.proofs.Growth.{Says, says_itself, says_then, says_more, turn_grows, entries_grow}

-- ---- histories

-- all moments are so
abbrev Through : (List ℕ → Type 0) → (old new : Option History) → Type 0
Through is_so old new = Arrives (Images is_so) (λ _. Unit {0}) old new

of_any : (now : Option History) → IfSome now (λ _. Unit {0})
of_any None = tt
of_any (Some history) = tt

through_weaker : (is_so too : List ℕ → Type 0) (at_end : Disk → Type 0) (old new : Option History) → ((bytes : List ℕ) → is_so bytes → too bytes) → Arrives (Images is_so) at_end old new → Through too old new
through_weaker is_so too at_end old new weaker run = arrives_weaker (Images too) (Images is_so) (λ _. Unit {0}) at_end old new (λ disk images bytes leaves. weaker bytes (images bytes leaves)) (λ disk _. tt) run

pub left_since : (is_so : List ℕ → Type 0) (old new : Option History) → IfSome old (λ (history : History). Images is_so history.now) → Through is_so old new → LeftSince is_so old new
left_since is_so None new start none = none
left_since is_so (Some old) new start (history, is, goes, _) = (history, is, goes_since is_so old history start goes)

images_weaker : (is_so too : List ℕ → Type 0) (now : Option History) → ((bytes : List ℕ) → is_so bytes → too bytes) → IfSome now (λ (history : History). Images is_so history.now) → IfSome now (λ (history : History). Images too history.now)
images_weaker is_so too None weaker images = tt
images_weaker is_so too (Some history) weaker images = λ bytes leaves. weaker bytes (images bytes leaves)

-- ---- runs

module _ (host : ℕ) where
  -- what is of the store at first is of its run
  pub of_first : (first : StoreState) (turns : List RunTurn) (bytes : List ℕ) → IsOfState host first bytes → IsOfRun host first turns bytes
  of_first first [] bytes is = is
  of_first first (one ∷ more) bytes is = inl is

  of_turn : (first : StoreState) (one : RunTurn) (more : List RunTurn) (bytes : List ℕ) → IsOfState host first bytes ⊎ IsOfState host one.left bytes → IsOfRun host first (one ∷ more) bytes
  of_turn first one more bytes (inl is) = inl is
  of_turn first one more bytes (inr is) = inr (of_first one.left more bytes is)

  -- each moment of a run is of one of its stores
  pub run_through : (first : StoreState) (turns : List RunTurn) (old new : Option History) → RunLeaves host first turns old new → Arrives (Images (IsOfRun host first turns)) (λ _. Unit {0}) old new
  run_through first [] old new same = subst (λ (now : Option History). Through (IsOfState host first) old now) (sym same) (arrives_nowhere (Images (IsOfState host first)) (λ _. Unit {0}) old (of_any old))
  run_through first (one ∷ more) old new (mid, turn, rest) =
      arrives_then (Images (IsOfRun host first (one ∷ more))) (λ _. Unit {0}) (λ _. Unit {0}) old mid new
      (through_weaker (λ bytes. IsOfState host first bytes ⊎ IsOfState host one.left bytes) (IsOfRun host first (one ∷ more)) (Images (IsOfState host one.left)) old mid (of_turn first one more) turn)
      (through_weaker (IsOfRun host one.left more) (IsOfRun host first (one ∷ more)) (λ _. Unit {0}) mid new (λ bytes is. inr is) (run_through one.left more mid new rest))

  -- a turn that writes nothing
  pub quiet_turn_leaves : (found left : StoreState) (now : Option History) → LeavesState host left now → TurnLeaves host found left now now
  quiet_turn_leaves found left now leaves = arrives_nowhere (Images (λ bytes. IsOfState host found bytes ⊎ IsOfState host left bytes)) (Images (IsOfState host left)) now leaves

  turn_ends : (found left : StoreState) (old new : Option History) → TurnLeaves host found left old new → LeavesState host left new
  turn_ends found left old new turn = arrived (Images (λ bytes. IsOfState host found bytes ⊎ IsOfState host left bytes)) (Images (IsOfState host left)) old new turn

  pub run_ends : (first : StoreState) (turns : List RunTurn) (old new : Option History) → LeavesState host first old → RunLeaves host first turns old new → LeavesState host (last_left first turns) new
  run_ends first [] old new start same = subst (LeavesState host first) (sym same) start
  run_ends first (one ∷ more) old new start (mid, turn, rest) = run_ends one.left more mid new (turn_ends first one.left old mid turn) rest

  -- the history at which the first turns of a run ended
  pub run_splits : (first : StoreState) (answered more : List RunTurn) (old new : Option History) → RunLeaves host first (answered ++ more) old new → (mid : Option History) × RunLeaves host first answered old mid × RunLeaves host (last_left first answered) more mid new
  run_splits first [] more old new run = (old, refl, run)
  run_splits first (one ∷ answered) more old new (mid, turn, rest) = let later = run_splits one.left answered more mid new rest in (later.0, (mid, turn, later.1), later.2)

  -- one turn more
  pub leaves_more : (first : StoreState) (turns : List RunTurn) (one : RunTurn) (old mid new : Option History) → RunLeaves host first turns old mid → TurnLeaves host (last_left first turns) one.left mid new → RunLeaves host first (turns ++ one ∷ []) old new
  leaves_more first [] one old mid new same turn = (new, subst (λ (now : Option History). TurnLeaves host first one.left now new) same turn, refl)
  leaves_more first (x ∷ turns) one old mid new (next, here, rest) turn = (next, here, leaves_more x.left turns one next mid new rest turn)

-- ---- entries

state_between : (host : ℕ) (state : StoreState) (least most : List Entry) (bytes : List ℕ) → Says least state.entries → Says (with_doubt state) most → IsOfState host state bytes → IsBetween host least most bytes
state_between host state least most bytes begins within (inl stands) = record { stood = state.entries; stands = stands; begins = begins; within = says_then state.entries (with_doubt state) most (says_more state.entries state.doubt) within }
state_between host state least most bytes begins within (inr stands) = record { stood = with_doubt state; stands = stands; begins = says_then least state.entries (with_doubt state) begins (says_more state.entries state.doubt); within = within }

between_more : (host : ℕ) (least first most : List Entry) (bytes : List ℕ) → Says least first → IsBetween host first most bytes → IsBetween host least most bytes
between_more host least first most bytes begins is = record { stood = is.stood; stands = is.stands; begins = says_then least first is.stood begins is.begins; within = is.within }

pub of_run_between : (store : KeyedStore) (number host : ℕ) (first : StoreState) (turns : List RunTurn) (bytes : List ℕ) → IsRun store number first turns → IsOfRun host first turns bytes → IsBetween host first.entries (with_doubt (last_left first turns)) bytes
of_run_between store number host first [] bytes run is = state_between host first first.entries (with_doubt first) bytes (says_itself first.entries) (says_itself (with_doubt first)) is
of_run_between store number host first (one ∷ more) bytes run (inl is) = state_between host first first.entries (with_doubt (last_left one.left more)) bytes (says_itself first.entries) (entries_grow store number first (one ∷ more) run).all is
of_run_between store number host first (one ∷ more) bytes run (inr is) =
    let grows = turn_grows first one.left store (caller_of number one.request.call) one.request.asked one.used one.reply.answer run.0.turn.answers in
    between_more host first.entries one.left.entries (with_doubt (last_left one.left more)) bytes grows.entries (of_run_between store number host one.left more bytes run.1 is)

-- so each moment of a run leaves something between its first store and its last one
pub run_between : (store : KeyedStore) (number host : ℕ) (first : StoreState) (turns : List RunTurn) (old new : Option History) → IsRun store number first turns → RunLeaves host first turns old new
    → Arrives (Images (IsBetween host first.entries (with_doubt (last_left first turns)))) (λ _. Unit {0}) old new
run_between store number host first turns old new run leaves =
    through_weaker (IsOfRun host first turns) (IsBetween host first.entries (with_doubt (last_left first turns))) (λ _. Unit {0}) old new (λ bytes is. of_run_between store number host first turns bytes run is) (run_through host first turns old new leaves)

-- ---- what was answered stays

run_behind : (store : KeyedStore) (number : ℕ) (first : StoreState) (answered more : List RunTurn) → IsRun store number first (answered ++ more) → IsRun store number (last_left first answered) more
run_behind store number first [] more run = run
run_behind store number first (one ∷ answered) more run = run_behind store number one.left answered more run.1

pub answers_stay : (store : KeyedStore) (number host : ℕ) (first : StoreState) (answered more : List RunTurn) (old new : Option History) → IsRun store number first (answered ++ more) → LeavesState host first old → RunLeaves host first (answered ++ more) old new
    → AnswersStay host first answered more old new
answers_stay store number host first answered more old new run start leaves =
    let cut = run_splits host first answered more old new leaves in
    let mid = cut.0 in
    let found = last_left first answered in
    let there : LeavesState host found mid = run_ends host first answered old mid start cut.1 in
    let images : IfSome mid (λ (history : History). Images (IsOfRun host found more) history.now) = images_weaker (IsOfState host found) (IsOfRun host found more) mid (of_first host found more) there in
    let behind : IsRun store number found more = run_behind store number first answered more run in
    record {
      mid = mid;
      before = cut.1;
      behind = cut.2;
      cut = left_since (IsOfRun host found more) mid new images (run_through host found more mid new cut.2);
      between = left_since (IsBetween host found.entries (with_doubt (last_left found more))) mid new
          (images_weaker (IsOfRun host found more) (IsBetween host found.entries (with_doubt (last_left found more))) mid (λ bytes is. of_run_between store number host found more bytes behind is) images)
          (run_between store number host found more mid new behind cut.2);
    }
