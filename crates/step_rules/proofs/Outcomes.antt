-- A writing call has one outcome, and every call has one where the views have answers.
use Rattle.std.proofs.Common.{◌≡◌, ℕ, ℤ, Bool, true, false, inl, inr, List, [], ◌∷◌, ◌++◌, length, Option, Some, None, refl, sym, ◌∙◌, ap, subst}
use Rattle.std.specs.Prelude.{slice_index}
use Rattle.std.proofs.lemmas.Bool.{cases_Bool, true≢false}
use Rattle.std.proofs.lemmas.Option.{none-some, same_Some}
use Rattle.definitions.specs.Uses.{Used, used_nothing, read_clock, read_and_drew}
use Rattle.payload_rules.specs.Payloads.{HistoryCreate, HistoryDelete, KvSet, KvDelete, AliasSet, AliasDelete}
use Rattle.definitions.specs.Journal.{StartedRecord, finished}
use Rattle.record_rules.specs.Records.{Caller, Entry}
use Rattle.record_rules.specs.Journal.{PassedLimit}
use Rattle.step_rules.specs.Calls.{Call, start_call, end_call, delete_call, search_call, kv_set_call, kv_delete_call, kv_get_call, kv_list_call, alias_set_call, alias_delete_call, alias_list_call, status_call, is_read, LongText, long_text}
use Rattle.step_rules.specs.Answers.{Refusal, too_long, unknown_id, unknown_name, full, id_taken, Answer, refused}
use Rattle.step_rules.specs.Store.{KeyedStore, HasCommand, HasValue, HasAlias}
use Rattle.step_rules.specs.Step.{Draft, start_draft, record_draft, running_under, Drafts, start_drafts, end_drafts, delete_drafts, kv_set_drafts, kv_delete_drafts, alias_set_drafts, alias_delete_drafts, Unknown, end_unknown, delete_unknown, key_unknown, alias_unknown, draft_passes, Ready, draws, drawn_id, draft_event, is_taken, draft_answer, Shows, shows_hits, shows_value, shows_no_value, shows_keys, shows_aliases, shows_places, Step, long_step, unknown_step, full_step, taken_step, append_step, read_step}
use Rattle.step_rules.specs.Laws.{ViewsAnswer, UsesOf, uses_nothing, uses_clock, uses_ten, uses_all}

-- ---- what a writing call wants of a journal, its texts aside

data Want : Type 0 where
  misses : Refusal → Want
  adds : Draft → Want

abbrev want_of_end : (id : ℕ) (duration exit : ℤ) → Option (List ℕ) → Option StartedRecord → Want
want_of_end id duration exit author None = misses (unknown_id id)
want_of_end id duration exit author (Some s) = adds (record_draft (Some id) (HistoryCreate (finished s duration exit author)))

-- what is wanted where the draft is there, a refusal of no meaning for a read
abbrev want_of : List Entry → Call → Want
want_of journal (start_call command cwd session hostname) = adds (start_draft command cwd session hostname)
want_of journal (end_call id duration exit author) = want_of_end id duration exit author (running_under id journal)
want_of journal (delete_call id) = adds (record_draft None (HistoryDelete id))
want_of journal (search_call asked) = misses (unknown_id 0)
want_of journal (kv_set_call namespace key value) = adds (record_draft None (KvSet namespace key value))
want_of journal (kv_delete_call namespace key) = adds (record_draft None (KvDelete namespace key))
want_of journal (kv_get_call namespace key) = misses (unknown_id 0)
want_of journal (kv_list_call namespace after limit) = misses (unknown_id 0)
want_of journal (alias_set_call name value) = adds (record_draft None (AliasSet name value))
want_of journal (alias_delete_call name) = adds (record_draft None (AliasDelete name))
want_of journal (alias_list_call after limit) = misses (unknown_id 0)
want_of journal status_call = misses (unknown_id 0)

-- what is missed where it isn't there
abbrev missed_by : Call → Want
missed_by (start_call command cwd session hostname) = misses (unknown_id 0)
missed_by (end_call id duration exit author) = misses (unknown_id id)
missed_by (delete_call id) = misses (unknown_id id)
missed_by (search_call asked) = misses (unknown_id 0)
missed_by (kv_set_call namespace key value) = misses (unknown_id 0)
missed_by (kv_delete_call namespace key) = misses (unknown_name key)
missed_by (kv_get_call namespace key) = misses (unknown_id 0)
missed_by (kv_list_call namespace after limit) = misses (unknown_id 0)
missed_by (alias_set_call name value) = misses (unknown_id 0)
missed_by (alias_delete_call name) = misses (unknown_name name)
missed_by (alias_list_call after limit) = misses (unknown_id 0)
missed_by status_call = misses (unknown_id 0)

record Outcome : Type 0 where
  after : List Entry
  answer : Answer

abbrev deleted : Call → ℕ
deleted (delete_call id) = id
deleted _ = 0

abbrev ended_name : Call → List ℕ
ended_name (alias_delete_call name) = name
ended_name _ = []

abbrev deleted_space : Call → List ℕ
deleted_space (kv_delete_call namespace key) = namespace
deleted_space _ = []

abbrev deleted_key : Call → List ℕ
deleted_key (kv_delete_call namespace key) = key
deleted_key _ = []

deleted_id : (a b : ℕ) → delete_call a ≡ delete_call b → a ≡ b
deleted_id a b e = ap deleted e

deleted_name : (a b : List ℕ) → alias_delete_call a ≡ alias_delete_call b → a ≡ b
deleted_name a b e = ap ended_name e

module _ (store : KeyedStore) (journal : List Entry) (caller : Caller) (call : Call) where
  abbrev outcome_of : List Entry → Answer → Outcome
  outcome_of after answer = record { after = after; answer = answer }

  abbrev drawn_outcome : Draft → ℕ → List ℕ → Bool → Outcome
  drawn_outcome draft now drawn true = outcome_of journal (refused (id_taken (drawn_id now drawn)))
  drawn_outcome draft now drawn false = outcome_of (journal ++ record { caller = caller; event = draft_event store journal draft now drawn } ∷ []) (draft_answer store journal draft (drawn_id now drawn))

  abbrev draft_outcome : Draft → Used → Option PassedLimit → Outcome
  draft_outcome draft used (Some passed) = outcome_of journal (refused (full passed))
  draft_outcome draft used None = drawn_outcome draft (slice_index used.readings 0) used.drawn (is_taken journal draft (drawn_id (slice_index used.readings 0) used.drawn))

  abbrev want_outcome : Used → Want → Outcome
  want_outcome used (misses refusal) = outcome_of journal (refused refusal)
  want_outcome used (adds draft) = draft_outcome draft used (draft_passes store journal draft)

  -- ---- one want

  abbrev IsWanted : Want → Type 0
  IsWanted (misses refusal) = Unknown store journal call refusal
  IsWanted (adds draft) = Drafts store journal call draft

  drafts_want : (draft : Draft) → Drafts store journal call draft → want_of journal call ≡ adds draft
  drafts_want draft (start_drafts _ _ _ _ e d) = ap (want_of journal) e ∙ ap adds (sym d)
  drafts_want draft (end_drafts id duration exit author s e found d) = ap (want_of journal) e ∙ ap (want_of_end id duration exit author) found ∙ ap adds (sym d)
  drafts_want draft (delete_drafts id e shown d) = ap (want_of journal) e ∙ ap adds (sym d)
  drafts_want draft (kv_set_drafts _ _ _ e d) = ap (want_of journal) e ∙ ap adds (sym d)
  drafts_want draft (kv_delete_drafts _ _ e shown d) = ap (want_of journal) e ∙ ap adds (sym d)
  drafts_want draft (alias_set_drafts _ _ e d) = ap (want_of journal) e ∙ ap adds (sym d)
  drafts_want draft (alias_delete_drafts name e shown d) = ap (want_of journal) e ∙ ap adds (sym d)

  unknown_wants : (refusal : Refusal) → Unknown store journal call refusal → missed_by call ≡ misses refusal
  unknown_wants refusal (end_unknown id duration exit author e none r) = ap missed_by e ∙ ap misses (sym r)
  unknown_wants refusal (delete_unknown id e none r) = ap missed_by e ∙ ap misses (sym r)
  unknown_wants refusal (key_unknown namespace key e none r) = ap missed_by e ∙ ap misses (sym r)
  unknown_wants refusal (alias_unknown name e none r) = ap missed_by e ∙ ap misses (sym r)

  pub shows_read : (answer : Answer) → Shows store journal call answer → is_read call ≡ true
  shows_read answer (shows_hits _ _ e _ _) = ap is_read e
  shows_read answer (shows_value _ _ _ e _ _) = ap is_read e
  shows_read answer (shows_no_value _ _ e _ _) = ap is_read e
  shows_read answer (shows_keys _ _ _ _ e _ _) = ap is_read e
  shows_read answer (shows_aliases _ _ _ e _ _) = ap is_read e
  shows_read answer (shows_places e _) = ap is_read e

  -- what is wanted to delete is there
  same_delete : (id : ℕ) (draft : Draft) → call ≡ delete_call id → Drafts store journal call draft → HasCommand store journal id
  same_delete id draft is (start_drafts _ _ _ _ e d) = absurd (let other = sym is ∙ e in cc)
  same_delete id draft is (end_drafts _ _ _ _ _ e _ d) = absurd (let other = sym is ∙ e in cc)
  same_delete id draft is (delete_drafts other e shown d) = (shown.0, shown.1, shown.2 ∙ deleted_id other id (sym e ∙ is))
  same_delete id draft is (kv_set_drafts _ _ _ e d) = absurd (let other = sym is ∙ e in cc)
  same_delete id draft is (kv_delete_drafts _ _ e _ d) = absurd (let other = sym is ∙ e in cc)
  same_delete id draft is (alias_set_drafts _ _ e d) = absurd (let other = sym is ∙ e in cc)
  same_delete id draft is (alias_delete_drafts _ e _ d) = absurd (let other = sym is ∙ e in cc)

  same_alias : (name : List ℕ) (draft : Draft) → call ≡ alias_delete_call name → Drafts store journal call draft → HasAlias store journal name
  same_alias name draft is (start_drafts _ _ _ _ e d) = absurd (let other = sym is ∙ e in cc)
  same_alias name draft is (end_drafts _ _ _ _ _ e _ d) = absurd (let other = sym is ∙ e in cc)
  same_alias name draft is (delete_drafts _ e _ d) = absurd (let other = sym is ∙ e in cc)
  same_alias name draft is (kv_set_drafts _ _ _ e d) = absurd (let other = sym is ∙ e in cc)
  same_alias name draft is (kv_delete_drafts _ _ e _ d) = absurd (let other = sym is ∙ e in cc)
  same_alias name draft is (alias_set_drafts _ _ e d) = absurd (let other = sym is ∙ e in cc)
  same_alias name draft is (alias_delete_drafts other e shown d) = subst (HasAlias store journal) (deleted_name other name (sym e ∙ is)) shown

  same_key : (namespace key : List ℕ) (draft : Draft) → call ≡ kv_delete_call namespace key → Drafts store journal call draft → HasValue store journal namespace key
  same_key namespace key draft is (start_drafts _ _ _ _ e d) = absurd (let other = sym is ∙ e in cc)
  same_key namespace key draft is (end_drafts _ _ _ _ _ e _ d) = absurd (let other = sym is ∙ e in cc)
  same_key namespace key draft is (delete_drafts _ e _ d) = absurd (let other = sym is ∙ e in cc)
  same_key namespace key draft is (kv_set_drafts _ _ _ e d) = absurd (let other = sym is ∙ e in cc)
  same_key namespace key draft is (kv_delete_drafts space other e shown d) =
      subst (λ (text : List ℕ). HasValue store journal text key) (ap deleted_space (sym e ∙ is)) (subst (λ (text : List ℕ). HasValue store journal space text) (ap deleted_key (sym e ∙ is)) shown)
  same_key namespace key draft is (alias_set_drafts _ _ e d) = absurd (let other = sym is ∙ e in cc)
  same_key namespace key draft is (alias_delete_drafts _ e _ d) = absurd (let other = sym is ∙ e in cc)

  apart : (draft : Draft) (refusal : Refusal) → Drafts store journal call draft → Unknown store journal call refusal → ⊥
  apart draft refusal drafts (end_unknown id duration exit author e none r) =
      let wants : adds draft ≡ misses (unknown_id id) = sym (drafts_want draft drafts) ∙ ap (want_of journal) e ∙ ap (want_of_end id duration exit author) none in
      cc
  apart draft refusal drafts (delete_unknown id e missing r) = missing (same_delete id draft e drafts)
  apart draft refusal drafts (key_unknown namespace key e missing r) = missing (same_key namespace key draft e drafts)
  apart draft refusal drafts (alias_unknown name e missing r) = missing (same_alias name draft e drafts)

  one_want : (a b : Want) → IsWanted a → IsWanted b → a ≡ b
  one_want (misses r) (misses s) first second = sym (unknown_wants r first) ∙ unknown_wants s second
  one_want (misses r) (adds draft) first second = absurd (apart draft r second first)
  one_want (adds draft) (misses r) first second = absurd (apart draft r first second)
  one_want (adds draft) (adds other) first second = sym (drafts_want draft first) ∙ drafts_want other second

  -- ---- one outcome

  -- why a step of a writing call has this outcome
  data Because (used : Used) (outcome : Outcome) : Type 0 where
    too_much : (long : LongText) → long_text call ≡ Some long → outcome ≡ outcome_of journal (refused (too_long long.field long.length)) → Because used outcome
    wanted : (want : Want) → long_text call ≡ None → IsWanted want → outcome ≡ want_outcome used want → Because used outcome

  drawn_expected : (used : Used) (draft : Draft) (now : ℕ) (drawn : List ℕ) (taken : Bool) → Ready store journal call draft → used ≡ read_and_drew now drawn → is_taken journal draft (drawn_id now drawn) ≡ taken → want_outcome used (adds draft) ≡ drawn_outcome draft now drawn taken
  drawn_expected used draft now drawn taken ready is same = ap (draft_outcome draft used) ready.room ∙ ap (λ u. draft_outcome draft u None) is ∙ ap (drawn_outcome draft now drawn) same

  outcome_is : (after other : List Entry) (answer told : Answer) → after ≡ other → answer ≡ told → outcome_of after answer ≡ outcome_of other told
  outcome_is after other answer told j a = ap (λ x. outcome_of x answer) j ∙ ap (outcome_of other) a

  because : (used : Used) (after : List Entry) (answer : Answer) → is_read call ≡ false → Step store journal caller call used after answer → Because used (outcome_of after answer)
  because used after answer writes (long_step now long _ is_long r) = too_much long is_long (outcome_is after journal answer _ r.stays r.answer_is)
  because used after answer writes (unknown_step now refusal _ short unknown r) = wanted (misses refusal) short unknown (outcome_is after journal answer _ r.stays r.answer_is)
  because used after answer writes (full_step now draft passed _ short drafts passes r) = wanted (adds draft) short drafts (outcome_is after journal answer _ r.stays r.answer_is ∙ sym (ap (draft_outcome draft used) passes))
  because used after answer writes (taken_step now drawn draft is _ ready taken r) = wanted (adds draft) ready.short ready.drafts (outcome_is after journal answer _ r.stays r.answer_is ∙ sym (drawn_expected used draft now drawn true ready is taken))
  because used after answer writes (append_step now drawn draft is _ ready free after_is answer_is) = wanted (adds draft) ready.short ready.drafts (outcome_is after _ answer _ after_is answer_is ∙ sym (drawn_expected used draft now drawn false ready is free))
  because used after answer writes (read_step _ shows _) = absurd (true≢false (sym (shows_read answer shows) ∙ writes))

  one_outcome : (used : Used) (a b : Outcome) → Because used a → Because used b → a ≡ b
  one_outcome used a b (too_much long l e) (too_much other m f) = e ∙ ap (λ (x : LongText). outcome_of journal (refused (too_long x.field x.length))) (same_Some long other (sym l ∙ m)) ∙ sym f
  one_outcome used a b (too_much long l e) (wanted want n w f) = absurd (none-some long (sym n ∙ l))
  one_outcome used a b (wanted want n w e) (too_much long l f) = absurd (none-some long (sym n ∙ l))
  one_outcome used a b (wanted want n w e) (wanted other m v f) = e ∙ ap (want_outcome used) (one_want want other w v) ∙ sym f

  pub Step-one : (used : Used) (one other : List Entry) (a b : Answer) → is_read call ≡ false → Step store journal caller call used one a → Step store journal caller call used other b → (one ≡ other) × (a ≡ b)
  Step-one used one other a b writes first second =
      let same : outcome_of one a ≡ outcome_of other b = one_outcome used (outcome_of one a) (outcome_of other b) (because used one a writes first) (because used other b writes second) in
      (ap (λ (o : Outcome). o.after) same, ap (λ (o : Outcome). o.answer) same)

  -- ---- a step for every call

  module _ (now : ℕ) (ten all : List ℕ) where
    pub record Happens : Type 0 where
      pub used : Used
      pub after : List Entry
      pub answer : Answer
      pub uses : UsesOf now ten all used
      pub step : Step store journal caller call used after answer

    happens : (used : Used) (after : List Entry) (answer : Answer) → UsesOf now ten all used → Step store journal caller call used after answer → Happens
    happens used after answer uses step = record { used = used; after = after; answer = answer; uses = uses; step = step }

    abbrev bytes_for : Draft → List ℕ
    bytes_for (start_draft command cwd session hostname) = ten
    bytes_for (record_draft closes payload) = all

    uses_bytes : (draft : Draft) → UsesOf now ten all (read_and_drew now (bytes_for draft))
    uses_bytes (start_draft command cwd session hostname) = uses_ten refl
    uses_bytes (record_draft closes payload) = uses_all refl

    shown_happens : (answer : Answer) → Shows store journal call answer → Happens
    shown_happens answer shows = happens used_nothing journal answer (uses_nothing refl) (read_step refl shows refl)

    long_happens : (long : LongText) → long_text call ≡ Some long → Happens
    long_happens long is_long = happens (read_clock now) journal (refused (too_long long.field long.length)) (uses_clock refl) (long_step now long refl is_long (record { stays = refl; answer_is = refl }))

    missed_happens : (refusal : Refusal) (long : Option LongText) → Unknown store journal call refusal → long_text call ≡ long → Happens
    missed_happens refusal None unknown short = happens (read_clock now) journal (refused refusal) (uses_clock refl) (unknown_step now refusal refl short unknown (record { stays = refl; answer_is = refl }))
    missed_happens refusal (Some long) unknown is_long = long_happens long is_long

    unknown_happens : (refusal : Refusal) → Unknown store journal call refusal → Happens
    unknown_happens refusal unknown = missed_happens refusal (long_text call) unknown refl

    module _ (ten_are : length ten ≡ 10) (all_are : length all ≡ 106) where
      bytes_are : (draft : Draft) → length (bytes_for draft) ≡ draws draft
      bytes_are (start_draft command cwd session hostname) = ten_are
      bytes_are (record_draft closes payload) = all_are

      ready_happens : (draft : Draft) → Ready store journal call draft → Happens
      ready_happens draft ready =
          elim (cases_Bool (is_taken journal draft (drawn_id now (bytes_for draft)))) [
            | inl taken ↦ happens (read_and_drew now (bytes_for draft)) journal (refused (id_taken (drawn_id now (bytes_for draft)))) (uses_bytes draft) (taken_step now (bytes_for draft) draft refl (bytes_are draft) ready taken (record { stays = refl; answer_is = refl }))
            | inr free ↦ happens (read_and_drew now (bytes_for draft)) (journal ++ record { caller = caller; event = draft_event store journal draft now (bytes_for draft) } ∷ []) (draft_answer store journal draft (drawn_id now (bytes_for draft))) (uses_bytes draft) (append_step now (bytes_for draft) draft refl (bytes_are draft) ready free refl refl)
          ]

      by_room : (draft : Draft) (passed : Option PassedLimit) → long_text call ≡ None → Drafts store journal call draft → draft_passes store journal draft ≡ passed → Happens
      by_room draft None short drafts room = ready_happens draft (record { short = short; drafts = drafts; room = room })
      by_room draft (Some passed) short drafts passes = happens (read_clock now) journal (refused (full passed)) (uses_clock refl) (full_step now draft passed refl short drafts passes (record { stays = refl; answer_is = refl }))

      by_length : (draft : Draft) (long : Option LongText) → Drafts store journal call draft → long_text call ≡ long → Happens
      by_length draft None drafts short = by_room draft (draft_passes store journal draft) short drafts refl
      by_length draft (Some long) drafts is_long = long_happens long is_long

      pub draft_happens : (draft : Draft) → Drafts store journal call draft → Happens
      draft_happens draft drafts = by_length draft (long_text call) drafts refl

module _ (store : KeyedStore) (journal : List Entry) (caller : Caller) (now : ℕ) (ten all : List ℕ) (ten_are : length ten ≡ 10) (all_are : length all ≡ 106) (views : ViewsAnswer store journal) where
  end_happens : (id : ℕ) (duration exit : ℤ) (author : Option (List ℕ)) (found : Option StartedRecord) → running_under id journal ≡ found → Happens store journal caller (end_call id duration exit author) now ten all
  end_happens id duration exit author None none = unknown_happens store journal caller (end_call id duration exit author) now ten all (unknown_id id) (end_unknown id duration exit author refl none refl)
  end_happens id duration exit author (Some s) found = draft_happens store journal caller (end_call id duration exit author) now ten all ten_are all_are (record_draft (Some id) (HistoryCreate (finished s duration exit author))) (end_drafts id duration exit author s refl found refl)

  read_happens : (call : Call) → (answer : Answer) × Shows store journal call answer → Happens store journal caller call now ten all
  read_happens call told = shown_happens store journal caller call now ten all told.0 told.1

  pub every_call_happens : (call : Call) → Happens store journal caller call now ten all
  every_call_happens (start_call command cwd session hostname) = draft_happens store journal caller (start_call command cwd session hostname) now ten all ten_are all_are (start_draft command cwd session hostname) (start_drafts command cwd session hostname refl refl)
  every_call_happens (end_call id duration exit author) = end_happens id duration exit author (running_under id journal) refl
  every_call_happens (delete_call id) =
      elim (views.command id) [
        | inl shown ↦ draft_happens store journal caller (delete_call id) now ten all ten_are all_are (record_draft None (HistoryDelete id)) (delete_drafts id refl shown refl)
        | inr missing ↦ unknown_happens store journal caller (delete_call id) now ten all (unknown_id id) (delete_unknown id refl missing refl)
      ]
  every_call_happens (search_call asked) = read_happens (search_call asked) (views.reads (search_call asked) refl)
  every_call_happens (kv_set_call namespace key value) = draft_happens store journal caller (kv_set_call namespace key value) now ten all ten_are all_are (record_draft None (KvSet namespace key value)) (kv_set_drafts namespace key value refl refl)
  every_call_happens (kv_delete_call namespace key) =
      elim (views.value namespace key) [
        | inl shown ↦ draft_happens store journal caller (kv_delete_call namespace key) now ten all ten_are all_are (record_draft None (KvDelete namespace key)) (kv_delete_drafts namespace key refl shown refl)
        | inr missing ↦ unknown_happens store journal caller (kv_delete_call namespace key) now ten all (unknown_name key) (key_unknown namespace key refl missing refl)
      ]
  every_call_happens (kv_get_call namespace key) = read_happens (kv_get_call namespace key) (views.reads (kv_get_call namespace key) refl)
  every_call_happens (kv_list_call namespace after limit) = read_happens (kv_list_call namespace after limit) (views.reads (kv_list_call namespace after limit) refl)
  every_call_happens (alias_set_call name value) = draft_happens store journal caller (alias_set_call name value) now ten all ten_are all_are (record_draft None (AliasSet name value)) (alias_set_drafts name value refl refl)
  every_call_happens (alias_delete_call name) =
      elim (views.name name) [
        | inl shown ↦ draft_happens store journal caller (alias_delete_call name) now ten all ten_are all_are (record_draft None (AliasDelete name)) (alias_delete_drafts name refl shown refl)
        | inr missing ↦ unknown_happens store journal caller (alias_delete_call name) now ten all (unknown_name name) (alias_unknown name refl missing refl)
      ]
  every_call_happens (alias_list_call after limit) = read_happens (alias_list_call after limit) (views.reads (alias_list_call after limit) refl)
  every_call_happens status_call = read_happens status_call (views.reads status_call refl)
