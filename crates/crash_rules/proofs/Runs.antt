-- What a crash since the start of a run may have left.
use Rattle.std.proofs.Common.{◌≡◌, ℕ, ◌⊎◌, inl, inr, List, [], ◌∷◌, ◌++◌, length, Option, Some, None, refl, sym, ◌∙◌, ap, subst, arith, append_assoc, append-nil, length-append}
use Rattle.std.specs.List.{AllByRecursion}
use Rattle.std.proofs.lemmas.List.{take_at}
use Rattle.std.proofs.lemmas.Option.{none-some}
use Rattle.std.proofs.lemmas.Grind.{flat_map-append}
use Rattle.record_rules.specs.Records.{Entry}
use Rattle.record_rules.specs.Journal.{events_of, Sound}
use Rattle.disk_rules.specs.Disk.{Disk, Leaves, IsDisk, Since}
use Rattle.disk_rules.specs.Calls.{Sync, Reaches, AllDone}
use Rattle.disk_rules.specs.Append.{append_calls, settle_calls}
use Rattle.disk_rules.specs.History.{History, Goes, Images, EachSince}
use Rattle.disk_rules.proofs.Histories.{goes_nowhere, goes_then, goes_weaker, goes_since}
use Rattle.disk_rules.proofs.Moments.{since_now, since_parts}
use Rattle.disk_rules.proofs.Calls.{shows_is_left}
use Rattle.log_rules.specs.Body.{IsBatch}
use Rattle.log_rules.specs.Log.{Form, payload_bytes, StandsFor}
use Rattle.crash_rules.specs.Laws.{IsLog, IsImageOf}
use Rattle.crash_rules.specs.Runs.{entries_in, IsCutBetweenCommits, LogState, CallEnd, Appended, LeftInDoubt, WasSettled, Unchanged, commit_in_doubt, committed_by, left_state, MayEnd, under_way, LogCall, IsLogRun, last_state, last_history, run_commits}
use Rattle.crash_rules.proofs.Crash.{one_of_two, settling_one_of_two}
use Rattle.crash_rules.proofs.Calls.{settled_may_append}

-- ---- entries of commits

entries_more : (commits more : List (List Entry)) → entries_in (commits ++ more) ≡ entries_in commits ++ entries_in more
entries_more commits more = flat_map-append (λ (commit : List Entry). commit) commits more

entries_one : (commit : List Entry) → entries_in (commit ∷ []) ≡ commit
entries_one commit = append-nil commit

-- the journal with some commits and then one more
entries_push : (journal : List Entry) (commits : List (List Entry)) (commit : List Entry) → (journal ++ entries_in commits) ++ commit ≡ journal ++ entries_in (commits ++ commit ∷ [])
entries_push journal commits commit =
    append_assoc journal (entries_in commits) commit ∙ ap (λ (l : List Entry). journal ++ (entries_in commits ++ l)) (sym (entries_one commit)) ∙ ap (λ (l : List Entry). journal ++ l) (sym (entries_more commits (commit ∷ [])))

-- ---- images are cuts

-- commits begin with the batch that may be there
abbrev BeginsWith : Option (List Entry) → List (List Entry) → Type 0
BeginsWith None commits = Unit {0}
BeginsWith (Some commit) commits = (rest : List (List Entry)) × (commits ≡ commit ∷ rest)

module _ (form : Form) (host : ℕ) (journal : List Entry) where
  -- of more commits the first ones are a cut
  cut_here : (commits more : List (List Entry)) (bytes : List ℕ) → StandsFor form bytes host (journal ++ entries_in commits) → IsCutBetweenCommits form host journal (commits ++ more) bytes
  cut_here commits more bytes stands = record {
    count = length commits;
    within = omega (arith, length-append commits more);
    stands = subst (λ (l : List (List Entry)). StandsFor form bytes host (journal ++ entries_in l)) (sym (take_at commits more (length commits) refl)) stands;
  }

  cut_behind : (commits more : List (List Entry)) (commit : List Entry) (bytes : List ℕ) → StandsFor form bytes host ((journal ++ entries_in commits) ++ commit) → IsCutBetweenCommits form host journal (commits ++ commit ∷ more) bytes
  cut_behind commits more commit bytes stands =
      subst (λ (l : List (List Entry)). IsCutBetweenCommits form host journal l bytes) (append_assoc commits (commit ∷ []) more)
      (cut_here (commits ++ commit ∷ []) more bytes (subst (StandsFor form bytes host) (entries_push journal commits commit) stands))

  image_is_cut : (commits more : List (List Entry)) (found : List Entry) (doubt : Option (List Entry)) (bytes : List ℕ) → found ≡ journal ++ entries_in commits → BeginsWith doubt more → IsImageOf form host found doubt bytes → IsCutBetweenCommits form host journal (commits ++ more) bytes
  image_is_cut commits more found None bytes is begins stands = cut_here commits more bytes (subst (StandsFor form bytes host) is stands)
  image_is_cut commits more found (Some commit) bytes is begins (inl stands) = cut_here commits more bytes (subst (StandsFor form bytes host) is stands)
  image_is_cut commits more found (Some commit) bytes is (rest, are) (inr stands) =
      subst (λ (l : List (List Entry)). IsCutBetweenCommits form host journal (commits ++ l) bytes) (sym are) (cut_behind commits rest commit bytes (subst (λ (l : List Entry). StandsFor form bytes host (l ++ commit)) is stands))

-- ---- runs

-- the commits of a run, and what is in doubt at its end
abbrev all_commits : LogState → List LogCall → List (List Entry)
all_commits state calls = run_commits state calls ++ commit_in_doubt (last_state state calls).doubt

-- the same, told of the first call's end and of the calls behind it
abbrev commits_behind : LogState → List LogCall → CallEnd → List (List Entry)
commits_behind state calls end = (committed_by state end ++ run_commits (left_state state end) calls) ++ commit_in_doubt (last_state (left_state state end) calls).doubt

next_after : (state : LogState) (calls : List LogCall) (more : List Entry) (end : CallEnd) → state.doubt ≡ Some more → MayEnd state end → ((left_state state end).doubt ≡ Some more → BeginsWith (Some more) (all_commits (left_state state end) calls)) → BeginsWith (Some more) (commits_behind state calls end)
next_after state calls more (Appended next) is may later = absurd (none-some more (sym may ∙ is))
next_after state calls more (LeftInDoubt next) is may later = absurd (none-some more (sym may ∙ is))
next_after state calls more WasSettled is may later = (all_commits (left_state state WasSettled) calls, ap (λ (d : Option (List Entry)). (commit_in_doubt d ++ run_commits (left_state state WasSettled) calls) ++ commit_in_doubt (last_state (left_state state WasSettled) calls).doubt) is)
next_after state calls more Unchanged is may later = later is

-- what is in doubt is the next commit, whatever the run does
doubt_is_next : (form : Form) (host : ℕ) (state : LogState) (old : History) (calls : List LogCall) (more : List Entry) → state.doubt ≡ Some more → IsLogRun form host state old calls → BeginsWith (Some more) (all_commits state calls)
doubt_is_next form host state old [] more is run = ([], ap commit_in_doubt is)
doubt_is_next form host state old (call ∷ calls) more is run = next_after state calls more call.end is run.0.may (λ still. doubt_is_next form host (left_state state call.end) call.left calls more still run.1)

-- so is a batch that is under way
way_is_next : (state : LogState) (calls : List LogCall) (end : CallEnd) → BeginsWith state.doubt (commits_behind state calls end) → ((more : List Entry) → (left_state state end).doubt ≡ Some more → BeginsWith (Some more) (all_commits (left_state state end) calls)) → BeginsWith (under_way state end) (commits_behind state calls end)
way_is_next state calls (Appended more) doubted later = (all_commits (left_state state (Appended more)) calls, refl)
way_is_next state calls (LeftInDoubt more) doubted later = later more refl
way_is_next state calls WasSettled doubted later = doubted
way_is_next state calls Unchanged doubted later = doubted

after_is : (state : LogState) (end : CallEnd) → (left_state state end).journal ≡ state.journal ++ entries_in (committed_by state end)
after_is state (Appended more) = ap (λ (l : List Entry). state.journal ++ l) (sym (entries_one more))
after_is state (LeftInDoubt more) = sym (append-nil state.journal)
after_is state WasSettled = refl
after_is state Unchanged = sym (append-nil state.journal)

pub run_ends : (state : LogState) (calls : List LogCall) → (last_state state calls).journal ≡ state.journal ++ entries_in (run_commits state calls)
run_ends state [] = sym (append-nil state.journal)
run_ends state (call ∷ calls) =
    let now = committed_by state call.end in
    let later = run_commits (left_state state call.end) calls in
    run_ends (left_state state call.end) calls ∙ ap (λ (l : List Entry). l ++ entries_in later) (after_is state call.end) ∙ append_assoc state.journal (entries_in now) (entries_in later)
    ∙ ap (λ (l : List Entry). state.journal ++ l) (sym (entries_more now later))

module _ (form : Form) (host : ℕ) (journal : List Entry) where
  run_cuts : (state : LogState) (old : History) (calls : List LogCall) (commits : List (List Entry)) → state.journal ≡ journal ++ entries_in commits → IsLogRun form host state old calls
      → Goes (Images (IsCutBetweenCommits form host journal (commits ++ all_commits state calls))) old (last_history old calls)
  run_cuts state old [] commits is run = goes_nowhere (Images (IsCutBetweenCommits form host journal (commits ++ all_commits state []))) old
  run_cuts state old (call ∷ calls) commits is run =
      let now = committed_by state call.end in
      let after = left_state state call.end in
      let all = all_commits state (call ∷ calls) in
      let doubted : BeginsWith state.doubt all = from_doubt state.doubt refl (λ more e. doubt_is_next form host state old (call ∷ calls) more e run) in
      let begins : BeginsWith (under_way state call.end) all = way_is_next state calls call.end doubted (λ more e. doubt_is_next form host after call.left calls more e run.1) in
      let first = goes_weaker (Images (IsImageOf form host state.journal (under_way state call.end))) (Images (IsCutBetweenCommits form host journal (commits ++ all))) old call.left
      (λ disk images left is_left. image_is_cut form host journal commits all state.journal (under_way state call.end) left is begins (images left is_left)) run.0.images in
      let grown : after.journal ≡ journal ++ entries_in (commits ++ now) =
      after_is state call.end ∙ ap (λ (l : List Entry). l ++ entries_in now) is ∙ append_assoc journal (entries_in commits) (entries_in now) ∙ ap (λ (l : List Entry). journal ++ l) (sym (entries_more commits now)) in
      let later = run_cuts after call.left calls (commits ++ now) grown run.1 in
      let doubt = commit_in_doubt (last_state after calls).doubt in
      let same : (commits ++ now) ++ all_commits after calls ≡ commits ++ all =
      append_assoc commits now (all_commits after calls) ∙ ap (λ (l : List (List Entry)). commits ++ l) (sym (append_assoc now (run_commits after calls) doubt)) in
      goes_then (Images (IsCutBetweenCommits form host journal (commits ++ all))) old call.left (last_history call.left calls) first
      (subst (λ (l : List (List Entry)). Goes (Images (IsCutBetweenCommits form host journal l)) call.left (last_history call.left calls)) same later)
    where
      from_doubt : (doubt : Option (List Entry)) → state.doubt ≡ doubt → ((more : List Entry) → state.doubt ≡ Some more → BeginsWith (Some more) (all_commits state (call ∷ calls))) → BeginsWith doubt (all_commits state (call ∷ calls))
      from_doubt None e next = tt
      from_doubt (Some more) e next = next more e

pub run_is_cut : (form : Form) (host : ℕ) (journal : List Entry) (old : History) (calls : List LogCall) → Images (λ (left : List ℕ). StandsFor form left host journal) old.now → IsLogRun form host (record { journal = journal; doubt = None }) old calls
    → EachSince (IsCutBetweenCommits form host journal (all_commits (record { journal = journal; doubt = None }) calls)) old (last_history old calls)
run_is_cut form host journal old calls start run =
    let state : LogState = record { journal = journal; doubt = None } in
    goes_since (IsCutBetweenCommits form host journal (all_commits state calls)) old (last_history old calls)
    (λ left is_left. cut_here form host journal [] (all_commits state calls) left (subst (StandsFor form left host) (sym (append-nil journal)) (start left is_left)))
    (run_cuts form host journal state old calls [] (sym (append-nil journal)) run)

-- ---- settling, and an append behind it

pub settle_then_append : (form : Form) (prefix : List ℕ) (host : ℕ) (journal more next : List Entry) (old mid now : Disk) (left : List ℕ) → IsLog form prefix host journal (Some more) old → IsBatch (events_of next) → Sound ((journal ++ more) ++ next) host
    → Reaches (settle_calls (length prefix)) old now ⊎ (AllDone (settle_calls (length prefix)) old mid × Reaches (append_calls (length (prefix ++ 1 ∷ payload_bytes form (length prefix) (events_of more))) (payload_bytes form (length (prefix ++ 1 ∷ payload_bytes form (length prefix) (events_of more))) (events_of next))) mid now)
    → Leaves now left → IsCutBetweenCommits form host journal (more ∷ next ∷ []) left
settle_then_append form prefix host journal more next old mid now left log batch sound moment is_left =
    let before = λ (stands : StandsFor form left host journal). cut_here form host journal [] (more ∷ next ∷ []) left (subst (StandsFor form left host) (sym (append-nil journal)) stands) in
    let settled = λ (stands : StandsFor form left host (journal ++ more)). cut_behind form host journal [] (next ∷ []) more left (subst (λ (l : List Entry). StandsFor form left host (l ++ more)) (sym (append-nil journal)) stands) in
    let appended = λ (stands : StandsFor form left host ((journal ++ more) ++ next)). cut_behind form host journal (more ∷ []) [] next left (subst (λ (l : List Entry). StandsFor form left host ((journal ++ l) ++ next)) (sym (entries_one more)) stands) in
    elim moment [
      | inl settling ↦ elim (settling_one_of_two form prefix host journal more old now left log settling is_left) [
        | inl stands ↦ before stands
        | inr stands ↦ settled stands
      ]
      | inr both ↦ elim (one_of_two form (prefix ++ 1 ∷ payload_bytes form (length prefix) (events_of more)) host (journal ++ more) next mid now left (settled_may_append form prefix host journal more next old mid log both.0 batch sound) both.1 is_left) [
        | inl stands ↦ settled stands
        | inr stands ↦ appended stands
      ]
    ]

-- ---- opening

pub opening_leaves_no_more : (old now : Disk) (left : List ℕ) → IsDisk old → Reaches (Sync ∷ []) old now → Leaves now left → Leaves old left
opening_leaves_no_more old now left is (inl same) is_left = subst (λ (d : Disk). Leaves d left) same is_left
opening_leaves_no_more old now left is (inr (inl same)) is_left = subst (λ (d : Disk). Leaves d left) same is_left
opening_leaves_no_more old now left is (inr (inr (mid, done, same))) is_left =
    let shown : left ≡ old.shows = subst (λ (d : Disk). Leaves d left) (same ∙ done) is_left in
    subst (Leaves old) (sym shown) (shows_is_left old is)

moments_leave_no_more : (old : Disk) (moments : List Disk) (left : List ℕ) → IsDisk old → AllByRecursion (Reaches (Sync ∷ []) old) moments → Since 0 moments left → Leaves old left
moments_leave_no_more old [] left is reached since = absurd since
moments_leave_no_more old (now ∷ before) left is reached (inl here) = opening_leaves_no_more old now left is reached.0 here.1
moments_leave_no_more old (now ∷ before) left is reached (inr earlier) = moments_leave_no_more old before left is reached.1 earlier

pub since_opening_leaves_no_more : (old : Disk) (moments before : List Disk) (left : List ℕ) → IsDisk old → AllByRecursion (Reaches (Sync ∷ []) old) moments → Since (length before) (moments ++ old ∷ before) left → Leaves old left
since_opening_leaves_no_more old moments before left is reached since =
    elim (since_parts (length before) moments (old ∷ before) left since) [
      | inl later ↦ moments_leave_no_more old moments left is reached later
      | inr at_start ↦ (since_now old before left).0 at_start.1
    ]
