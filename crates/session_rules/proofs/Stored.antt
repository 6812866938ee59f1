-- What tells of nothing that was stored commits nothing.
use Rattle.std.proofs.Common.{◌≡◌, ℕ, true, false, List, [], take, refl, sym, ◌∙◌, ap}
use Rattle.std.proofs.lemmas.Bool.{true≢false}
use Rattle.std.proofs.lemmas.List.{append-nil, append_cancel_left}
use Rattle.definitions.specs.Uses.{Used}
use Rattle.record_rules.specs.Records.{Caller, Entry}
use Rattle.step_rules.specs.Calls.{Call}
use Rattle.step_rules.specs.Answers.{Answer}
use Rattle.step_rules.specs.Store.{KeyedStore}
use Rattle.step_rules.specs.Step.{Draft, start_draft, record_draft, draft_answer, Step, long_step, unknown_step, full_step, taken_step, append_step, read_step}
use Rattle.session_rules.specs.Sessions.{to_call, told_step, told_disk_fault, told_random_fault, told_no_memory, told_no_memory_at_once, told_bad, told_no_memory_for_bad, told_page, told_page_refused, told_page_disk_fault, told_page_no_memory, told_read, told_unrouted, told_no_memory_for_unrouted, is_stored}
use Rattle.session_rules.specs.Laws.{OnlyStoredCommits}

draft_stored : (store : KeyedStore) (journal : List Entry) (draft : Draft) (id : ℕ) → is_stored (to_call (draft_answer store journal draft id)) ≡ true
draft_stored store journal (start_draft command cwd session hostname) id = refl
draft_stored store journal (record_draft closes payload) id = refl

-- a step that stores nothing leaves the journal
step_leaves : (store : KeyedStore) (before : List Entry) (caller : Caller) (call : Call) (used : Used) (after : List Entry) (given : Answer) → Step store before caller call used after given → is_stored (to_call given) ≡ false → after ≡ before
step_leaves store before caller call used after given (long_step _ _ _ _ refuses) none = refuses.stays
step_leaves store before caller call used after given (unknown_step _ _ _ _ _ refuses) none = refuses.stays
step_leaves store before caller call used after given (full_step _ _ _ _ _ _ _ refuses) none = refuses.stays
step_leaves store before caller call used after given (taken_step _ _ _ _ _ _ _ refuses) none = refuses.stays
step_leaves store before caller call used after given (append_step _ _ draft _ _ _ _ _ is) none = absurd (true≢false (sym (draft_stored store before draft _) ∙ sym (ap (λ a. is_stored (to_call a)) is) ∙ none))
step_leaves store before caller call used after given (read_step _ _ stays) none = stays

pub stored_commits : OnlyStoredCommits
stored_commits store journal caller asked front used answer commit (told_step call before given _ parts step same) none =
    let stays : take front journal ≡ before = step_leaves store before caller call used (take front journal) given step (sym (ap is_stored same) ∙ none) in
    sym (append_cancel_left before [] commit (append-nil before ∙ sym stays ∙ parts))
stored_commits store journal caller asked front used answer commit (told_disk_fault _ _ _ _ _ is) none = is
stored_commits store journal caller asked front used answer commit (told_random_fault _ _ _ _ _ _ _ is) none = is
stored_commits store journal caller asked front used answer commit (told_no_memory _ _ _ _ _ is) none = is
stored_commits store journal caller asked front used answer commit (told_no_memory_at_once _ _ _ _ is) none = is
stored_commits store journal caller asked front used answer commit (told_bad _ _ _ _ is) none = is
stored_commits store journal caller asked front used answer commit (told_no_memory_for_bad _ _ _ _ is) none = is
stored_commits store journal caller asked front used answer commit (told_page _ _ _ _ _ _ _ same) none = absurd (true≢false (sym (ap is_stored same) ∙ none))
stored_commits store journal caller asked front used answer commit (told_page_refused _ _ _ _ _ _ _ is) none = is
stored_commits store journal caller asked front used answer commit (told_page_disk_fault _ _ _ _ _ is) none = is
stored_commits store journal caller asked front used answer commit (told_page_no_memory _ _ _ _ _ is) none = is
stored_commits store journal caller asked front used answer commit (told_read _ _ _ _ _ _ is) none = is
stored_commits store journal caller asked front used answer commit (told_unrouted _ _ _ _ is) none = is
stored_commits store journal caller asked front used answer commit (told_no_memory_for_unrouted _ _ _ _ is) none = is
