-- What a step leaves.
use Rattle.std.proofs.Common.{◌≡◌, ℕ, ◌≤◌, true, false, List, [], ◌∷◌, ◌++◌, length, refl, sym, ◌∙◌, ap, subst, arith}
use Rattle.std.specs.Prelude.{All}
use Rattle.std.proofs.lemmas.Bool.{true≢false}
use Rattle.std.proofs.lemmas.List.{append-nil}
use Rattle.std.proofs.lemmas.List.Elements.{All-push}
use Rattle.definitions.specs.Uses.{Used}
use Rattle.record_rules.specs.Records.{Caller, Entry}
use Rattle.record_rules.specs.Journal.{Sound}
use Rattle.record_rules.proofs.Soundness.{Sound-push}
use Rattle.step_rules.specs.Calls.{Call, CallFits, is_read}
use Rattle.step_rules.specs.Answers.{Answer}
use Rattle.step_rules.specs.Store.{KeyedStore, SealsWell}
use Rattle.step_rules.specs.Step.{Draft, start_draft, record_draft, Drafts, start_drafts, end_drafts, delete_drafts, kv_set_drafts, kv_delete_drafts, alias_set_drafts, alias_delete_drafts, draft_event, draft_answer, Step, long_step, unknown_step, full_step, taken_step, append_step, read_step}
use Rattle.step_rules.specs.Turn.{is_refusal}
use Rattle.step_rules.proofs.Following.{drafts_fit, draft_follows}

pub Step-sound : (store : KeyedStore) (journal : List Entry) (caller : Caller) (call : Call) (used : Used) (after : List Entry) (answer : Answer) → SealsWell store → CallFits call → Sound journal store.host → Step store journal caller call used after answer → Sound after store.host
Step-sound store journal caller call used after answer well asked sound (long_step _ _ _ _ r) = subst (λ j. Sound j store.host) (sym r.stays) sound
Step-sound store journal caller call used after answer well asked sound (unknown_step _ _ _ _ _ r) = subst (λ j. Sound j store.host) (sym r.stays) sound
Step-sound store journal caller call used after answer well asked sound (full_step _ _ _ _ _ _ _ r) = subst (λ j. Sound j store.host) (sym r.stays) sound
Step-sound store journal caller call used after answer well asked sound (taken_step _ _ _ _ _ _ _ r) = subst (λ j. Sound j store.host) (sym r.stays) sound
Step-sound store journal caller call used after answer well asked sound (append_step now drawn draft _ many ready free after_is _) =
    let follows = draft_follows store journal call draft now drawn well many (drafts_fit store journal store.host call draft asked sound ready.short ready.drafts) ready.room free in
    subst (λ j. Sound j store.host) (sym after_is) (Sound-push journal (record { caller = caller; event = draft_event store journal draft now drawn }) store.host sound follows)
Step-sound store journal caller call used after answer well asked sound (read_step _ _ stays) = subst (λ j. Sound j store.host) (sym stays) sound

-- ---- what is added

pub record Adds (journal : List Entry) (caller : Caller) (after : List Entry) : Type 0 where
  pub added : List Entry
  pub after_is : after ≡ journal ++ added
  pub few : length added ≤ 1
  pub of_caller : All (λ (entry : Entry). entry.caller ≡ caller) added

adds_none : (journal : List Entry) (caller : Caller) (after : List Entry) → after ≡ journal → Adds journal caller after
adds_none journal caller after stays = record { added = []; after_is = stays ∙ sym (append-nil journal); few = omega arith; of_caller = λ k d below. absurd (omega arith) }

pub Step-adds : (store : KeyedStore) (journal : List Entry) (caller : Caller) (call : Call) (used : Used) (after : List Entry) (answer : Answer) → Step store journal caller call used after answer → Adds journal caller after
Step-adds store journal caller call used after answer (long_step _ _ _ _ r) = adds_none journal caller after r.stays
Step-adds store journal caller call used after answer (unknown_step _ _ _ _ _ r) = adds_none journal caller after r.stays
Step-adds store journal caller call used after answer (full_step _ _ _ _ _ _ _ r) = adds_none journal caller after r.stays
Step-adds store journal caller call used after answer (taken_step _ _ _ _ _ _ _ r) = adds_none journal caller after r.stays
Step-adds store journal caller call used after answer (append_step now drawn draft _ _ ready free after_is _) =
    let entry : Entry = record { caller = caller; event = draft_event store journal draft now drawn } in
    record { added = entry ∷ []; after_is = after_is; few = omega arith; of_caller = All-push (λ (e : Entry). e.caller ≡ caller) [] entry (λ k d below. absurd (omega arith)) refl }
Step-adds store journal caller call used after answer (read_step _ _ stays) = adds_none journal caller after stays

-- ---- what stays

answer_of_draft : (store : KeyedStore) (journal : List Entry) (draft : Draft) (id : ℕ) → is_refusal (draft_answer store journal draft id) ≡ false
answer_of_draft store journal (start_draft command cwd session hostname) id = refl
answer_of_draft store journal (record_draft closes payload) id = refl

pub Step-refused : (store : KeyedStore) (journal : List Entry) (caller : Caller) (call : Call) (used : Used) (after : List Entry) (answer : Answer) → is_refusal answer ≡ true → Step store journal caller call used after answer → after ≡ journal
Step-refused store journal caller call used after answer denied (long_step _ _ _ _ r) = r.stays
Step-refused store journal caller call used after answer denied (unknown_step _ _ _ _ _ r) = r.stays
Step-refused store journal caller call used after answer denied (full_step _ _ _ _ _ _ _ r) = r.stays
Step-refused store journal caller call used after answer denied (taken_step _ _ _ _ _ _ _ r) = r.stays
Step-refused store journal caller call used after answer denied (append_step now drawn draft _ _ ready free after_is answer_is) = absurd (true≢false (sym denied ∙ ap is_refusal answer_is ∙ answer_of_draft store journal draft _))
Step-refused store journal caller call used after answer denied (read_step _ _ stays) = stays

pub drafts_write : (store : KeyedStore) (journal : List Entry) (call : Call) (draft : Draft) → Drafts store journal call draft → is_read call ≡ false
drafts_write store journal call draft (start_drafts _ _ _ _ e _) = ap is_read e
drafts_write store journal call draft (end_drafts _ _ _ _ _ e _ _) = ap is_read e
drafts_write store journal call draft (delete_drafts _ e _ _) = ap is_read e
drafts_write store journal call draft (kv_set_drafts _ _ _ e _) = ap is_read e
drafts_write store journal call draft (kv_delete_drafts _ _ e _ _) = ap is_read e
drafts_write store journal call draft (alias_set_drafts _ _ e _) = ap is_read e
drafts_write store journal call draft (alias_delete_drafts _ e _ _) = ap is_read e

pub Step-read : (store : KeyedStore) (journal : List Entry) (caller : Caller) (call : Call) (used : Used) (after : List Entry) (answer : Answer) → is_read call ≡ true → Step store journal caller call used after answer → after ≡ journal
Step-read store journal caller call used after answer reads (long_step _ _ _ _ r) = r.stays
Step-read store journal caller call used after answer reads (unknown_step _ _ _ _ _ r) = r.stays
Step-read store journal caller call used after answer reads (full_step _ _ _ _ _ _ _ r) = r.stays
Step-read store journal caller call used after answer reads (taken_step _ _ _ _ _ _ _ r) = r.stays
Step-read store journal caller call used after answer reads (append_step _ _ draft _ _ ready _ _ _) = absurd (true≢false (sym reads ∙ drafts_write store journal call draft ready.drafts))
Step-read store journal caller call used after answer reads (read_step _ _ stays) = stays
