-- A read has one answer, so every step has one outcome.
use Rattle.std.proofs.Common.{◌≡◌, ℕ, true, false, ◌⊎◌, inl, inr, List, map, Some, None, refl, sym, ◌∙◌, ap, subst}
use Rattle.std.proofs.lemmas.Bool.{cases_Bool, true≢false}
use Rattle.std.proofs.lemmas.Option.{none-some}
use Rattle.definitions.specs.Journal.{HistoryRecord}
use Rattle.definitions.specs.Uses.{Used}
use Rattle.record_rules.specs.Records.{Caller, Entry}
use Rattle.record_rules.specs.Journal.{status, Sound}
use Rattle.view_rules.specs.Changes.{OpensByTag}
use Rattle.view_rules.specs.Views.{ShowsKv, ShowsAlias}
use Rattle.view_rules.specs.Answers.{SearchAnswer, Named, IsKey, KvListAnswer, AliasListAnswer}
use Rattle.view_rules.proofs.Records.{own_places}
use Rattle.view_rules.proofs.Ones.{one_value}
use Rattle.view_rules.proofs.Searches.{search_one}
use Rattle.view_rules.proofs.Lists.{list_one}
use Rattle.step_rules.specs.Calls.{Call, start_call, end_call, delete_call, search_call, kv_set_call, kv_delete_call, kv_get_call, kv_list_call, alias_set_call, alias_delete_call, alias_list_call, status_call, is_read, long_text}
use Rattle.step_rules.specs.Answers.{Refusal, Answer, hits, value_is, keys, aliases, places}
use Rattle.step_rules.specs.Store.{KeyedStore, shown_changes, HasValue}
use Rattle.step_rules.specs.Step.{Unknown, end_unknown, delete_unknown, key_unknown, alias_unknown, Shows, shows_hits, shows_value, shows_no_value, shows_keys, shows_aliases, shows_places, Step, long_step, unknown_step, full_step, taken_step, append_step, read_step}
use Rattle.step_rules.proofs.Steps.{drafts_write}
use Rattle.step_rules.proofs.Outcomes.{Step-one}

module _ (store : KeyedStore) (journal : List Entry) where
  -- the answers to each call
  abbrev IsAnswerTo : Call → Answer → Type 0
  IsAnswerTo (search_call asked) answer = (page : List HistoryRecord) × SearchAnswer (shown_changes store journal) asked page × (answer ≡ hits page)
  IsAnswerTo (kv_get_call namespace key) answer = ((value : List ℕ) × ShowsKv (shown_changes store journal) namespace key value × (answer ≡ value_is (Some value))) ⊎ ((HasValue store journal namespace key → ⊥) × (answer ≡ value_is None))
  IsAnswerTo (kv_list_call namespace after limit) answer = (page : List Named) × KvListAnswer (shown_changes store journal) namespace after limit page × (answer ≡ keys (map (λ item. item.name) page))
  IsAnswerTo (alias_list_call after limit) answer = (page : List Named) × AliasListAnswer (shown_changes store journal) after limit page × (answer ≡ aliases page)
  IsAnswerTo status_call answer = answer ≡ places (status journal 0)
  IsAnswerTo _ answer = ⊥

  is_answer : (call : Call) (answer : Answer) → Shows store journal call answer → IsAnswerTo call answer
  is_answer call answer (shows_hits asked page e found a) = subst (λ c. IsAnswerTo c answer) (sym e) (page, found, a)
  is_answer call answer (shows_value namespace key value e shown a) = subst (λ c. IsAnswerTo c answer) (sym e) (inl (value, shown, a))
  is_answer call answer (shows_no_value namespace key e none a) = subst (λ c. IsAnswerTo c answer) (sym e) (inr (none, a))
  is_answer call answer (shows_keys namespace after limit page e listed a) = subst (λ c. IsAnswerTo c answer) (sym e) (page, listed, a)
  is_answer call answer (shows_aliases after limit page e listed a) = subst (λ c. IsAnswerTo c answer) (sym e) (page, listed, a)
  is_answer call answer (shows_places e a) = subst (λ c. IsAnswerTo c answer) (sym e) a

  module _ (by_tag : OpensByTag store.opens) (host : ℕ) (sound : Sound journal host) where
    one_read_value : (namespace key : List ℕ) (a b : Answer) → IsAnswerTo (kv_get_call namespace key) a → IsAnswerTo (kv_get_call namespace key) b → a ≡ b
    one_read_value namespace key a b (inl p) (inl q) = p.2 ∙ ap (λ v. value_is (Some v)) (one_value (shown_changes store journal) (own_places store.opens journal host by_tag sound) namespace key p.0 q.0 p.1 q.1) ∙ sym q.2
    one_read_value namespace key a b (inl p) (inr q) = absurd (q.0 (p.0, p.1))
    one_read_value namespace key a b (inr p) (inl q) = absurd (p.0 (q.0, q.1))
    one_read_value namespace key a b (inr p) (inr q) = p.1 ∙ sym q.1

    one_answer : (call : Call) (a b : Answer) → IsAnswerTo call a → IsAnswerTo call b → a ≡ b
    one_answer (search_call asked) a b p q = p.2 ∙ ap hits (search_one (shown_changes store journal) asked p.0 q.0 p.1 q.1) ∙ sym q.2
    one_answer (kv_get_call namespace key) a b p q = one_read_value namespace key a b p q
    one_answer (kv_list_call namespace after limit) a b p q = p.2 ∙ ap (λ (page : List Named). keys (map (λ (item : Named). item.name) page)) (list_one (IsKey (shown_changes store journal) namespace) after limit p.0 q.0 p.1 q.1) ∙ sym q.2
    one_answer (alias_list_call after limit) a b p q = p.2 ∙ ap aliases (list_one (λ (item : Named). ShowsAlias (shown_changes store journal) item.name item.value) after limit p.0 q.0 p.1 q.1) ∙ sym q.2
    one_answer status_call a b p q = p ∙ sym q
    one_answer (start_call command cwd session hostname) a b p q = absurd p
    one_answer (end_call id duration exit author) a b p q = absurd p
    one_answer (delete_call id) a b p q = absurd p
    one_answer (kv_set_call namespace key value) a b p q = absurd p
    one_answer (kv_delete_call namespace key) a b p q = absurd p
    one_answer (alias_set_call name value) a b p q = absurd p
    one_answer (alias_delete_call name) a b p q = absurd p

-- ---- what a step of a read is

reads_short : (call : Call) → is_read call ≡ true → long_text call ≡ None
reads_short (start_call command cwd session hostname) reads = absurd (true≢false (sym reads))
reads_short (end_call id duration exit author) reads = absurd (true≢false (sym reads))
reads_short (delete_call id) reads = refl
reads_short (search_call asked) reads = refl
reads_short (kv_set_call namespace key value) reads = absurd (true≢false (sym reads))
reads_short (kv_delete_call namespace key) reads = refl
reads_short (kv_get_call namespace key) reads = refl
reads_short (kv_list_call namespace after limit) reads = refl
reads_short (alias_set_call name value) reads = absurd (true≢false (sym reads))
reads_short (alias_delete_call name) reads = refl
reads_short (alias_list_call after limit) reads = refl
reads_short status_call reads = refl

unknown_writes : (store : KeyedStore) (journal : List Entry) (call : Call) (refusal : Refusal) → Unknown store journal call refusal → is_read call ≡ false
unknown_writes store journal call refusal (end_unknown _ _ _ _ e _ _) = ap is_read e
unknown_writes store journal call refusal (delete_unknown _ e _ _) = ap is_read e
unknown_writes store journal call refusal (key_unknown _ _ e _ _) = ap is_read e
unknown_writes store journal call refusal (alias_unknown _ e _ _) = ap is_read e

step_shows : (store : KeyedStore) (journal : List Entry) (caller : Caller) (call : Call) (used : Used) (after : List Entry) (answer : Answer) → is_read call ≡ true → Step store journal caller call used after answer → (after ≡ journal) × Shows store journal call answer
step_shows store journal caller call used after answer reads (long_step now long _ is_long _) = absurd (none-some long (sym (reads_short call reads) ∙ is_long))
step_shows store journal caller call used after answer reads (unknown_step _ refusal _ _ unknown _) = absurd (true≢false (sym reads ∙ unknown_writes store journal call refusal unknown))
step_shows store journal caller call used after answer reads (full_step _ draft _ _ _ drafts _ _) = absurd (true≢false (sym reads ∙ drafts_write store journal call draft drafts))
step_shows store journal caller call used after answer reads (taken_step _ _ draft _ _ ready _ _) = absurd (true≢false (sym reads ∙ drafts_write store journal call draft ready.drafts))
step_shows store journal caller call used after answer reads (append_step _ _ draft _ _ ready _ _ _) = absurd (true≢false (sym reads ∙ drafts_write store journal call draft ready.drafts))
step_shows store journal caller call used after answer reads (read_step _ shows stays) = (stays, shows)

pub step_has_one : (store : KeyedStore) (journal : List Entry) (caller : Caller) (call : Call) (used : Used) (one other : List Entry) (a b : Answer) → OpensByTag store.opens → Sound journal store.host → Step store journal caller call used one a → Step store journal caller call used other b → (one ≡ other) × (a ≡ b)
step_has_one store journal caller call used one other a b by_tag sound first second =
    elim (cases_Bool (is_read call)) [
      | inl reads ↦
          let p = step_shows store journal caller call used one a reads first in
          let q = step_shows store journal caller call used other b reads second in
          (p.0 ∙ sym q.0, one_answer store journal by_tag store.host sound call a b (is_answer store journal call a p.1) (is_answer store journal call b q.1))
      | inr writes ↦ Step-one store journal caller call used one other a b writes first second
    ]
