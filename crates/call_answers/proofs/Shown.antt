-- What the views find, and a list of the store's changes in whatever order makes of it: what a call is shown.
use Rattle.std.proofs.Common.{◌≡◌, ◌<◌, ◌≤◌, ◌+◌, ℕ, List, [], ◌∷◌, ◌++◌, length, take, drop, map, Some, Result, Ok, Err, IfOk, refl, sym, ap, ap₂, ◌∙◌, subst, slice_index_or}
use Rattle.std.proofs.lemmas.List.{map-append, map_more, take-append-drop, append-nil}
use Rattle.std.proofs.Math.ListN.{drop_of_length-le}
use Rattle.definitions.specs.Journal.{HistoryRecord}
use Rattle.record_rules.specs.Records.{Entry}
use Rattle.record_model.specs.declared.asking.Filter.{Filter}
use Rattle.record_model.specs.declared.asking.Filter.TheVariants as filter
use Rattle.record_model.specs.declared.asking.Query.{Query}
use Rattle.record_model.specs.declared.ended.History.{History}
use Rattle.record_model.specs.declared.replying.Answer.{Answer}
use Rattle.plain_types.specs.declared.no_memory.NoMemory.{NoMemory}
use Rattle.record_model.specs.Seen.{history_seen, histories_seen, mode_seen}
use Rattle.view_rules.specs.Changes.{Change, HaveDistinctPlaces, SameChanges}
use Rattle.view_rules.specs.Views.{ShowsKv}
use Rattle.view_rules.specs.Answers.{Scope, ScopedQuery, SearchAnswer, Named, KvListAnswer, AliasListAnswer}
use Rattle.view_rules.proofs.Sets.{set_makes_views}
use Rattle.step_rules.specs.Calls.{Call, search_call, kv_list_call, alias_list_call}
use Rattle.step_rules.specs.Answers as answers
use Rattle.step_rules.specs.Store.{KeyedStore, shown_changes}
use Rattle.step_rules.specs.Step.{Shows, shows_hits, shows_keys, shows_aliases}
use Rattle.model_words.specs.Seen as words
use Rattle.history_view.specs.declared.shown.ShownCommand.{ShownCommand}
use Rattle.history_view.specs.Buckets as buckets
use Rattle.history_view.specs.Shown.{command_seen}
use Rattle.history_view.specs.ViewState as history
use Rattle.kv_view.specs.Pairs as pairs
use Rattle.alias_view.specs.Aliases as aliases
use Rattle.latest_values.specs.Settings.{Places}
use Rattle.search_query.specs.Answers.{query_seen, seen_of}
use Rattle.call_drafts.specs.declared.kept.Kept.{Kept}
use Rattle.call_drafts.specs.Drafting.{IsKeptOf, KeepsHistory, KeepsPairs, KeepsAliases}
use Rattle.chain_index.specs.Chains.{IndexSeen}
use Rattle.chain_index.specs.Meaning.{Filed, journal_of, IsIndexOf}

-- ---- copies

-- a copy more
pub copied_more : (hits : List History) (hit : History) (shown : List ShownCommand) (k : ℕ) (one : ShownCommand) → k < length shown → histories_seen hits ≡ seen_of (take k shown)
    → history_seen hit ≡ command_seen (slice_index_or shown k one) → histories_seen (hits ++ hit ∷ []) ≡ seen_of (take (k + 1) shown)
copied_more hits hit shown k one below before same =
    map-append history_seen hits (hit ∷ [])
    ∙ ap₂ (λ (l : List HistoryRecord) (h : HistoryRecord). l ++ h ∷ []) before same
    ∙ sym (map_more command_seen shown k one below)

-- and all of them
pub copied_all : (shown : List ShownCommand) (k : ℕ) → length shown ≤ k → seen_of (take k shown) ≡ seen_of shown
copied_all shown k past =
    let short : drop k shown ≡ [] = drop_of_length-le shown past in
    ap seen_of (sym (append-nil (take k shown)) ∙ ap (λ (l : List ShownCommand). take k shown ++ l) (sym short) ∙ take-append-drop k shown)

-- ---- searches

-- two words for one thing
same_scope : (f : Filter) → buckets.scope_seen f ≡ words.scope_seen f
same_scope filter.Global = refl
same_scope (filter.Host text) = refl
same_scope (filter.Session text) = refl
same_scope (filter.Directory text) = refl

same_query : (q : Query) → query_seen q ≡ words.query_seen q
same_query q = ap (λ (s : Scope). record { scope = s; unique = q.unique; query = record { mode = mode_seen q.mode; text = q.text; offset = q.offset; limit = q.limit } }) (same_scope q.filter)

module _ (store : KeyedStore) (journal : List Entry) where
  pub shows_search : (view : history.ViewState) (query : Query) (page : List HistoryRecord) → KeepsHistory view store journal
      → ((changes : List Change) → history.Means view changes → HaveDistinctPlaces changes → SearchAnswer changes (query_seen query) page)
      → Shows store journal (search_call (words.query_seen query)) (answers.hits page)
  shows_search view query page keeps told =
      let there = ((set_makes_views keeps.changes (shown_changes store journal) keeps.listed.same).search (query_seen query) page).0 (told keeps.changes keeps.means keeps.listed.apart) in
      shows_hits (words.query_seen query) page refl (subst (λ (q : ScopedQuery). SearchAnswer (shown_changes store journal) q page) (same_query query) there) refl

-- ---- values and lists

-- a value that is found under a key
pub value_shown : (changes others : List Change) (namespace key value : List ℕ) → SameChanges changes others → ShowsKv changes namespace key value → ShowsKv others namespace key value
value_shown changes others namespace key value same shows = (shows.0, ((set_makes_views changes others same).kv namespace key shows.0 (Some value)).0 shows.1)

-- the names of keys that are listed are these keys
pub listed_names : (keys : List (List ℕ)) → keys ≡ map (λ (item : Named). item.name) (pairs.keys_listed keys)
listed_names [] = refl
listed_names (key ∷ keys) = ap (λ (l : List (List ℕ)). key ∷ l) (listed_names keys)

module _ (store : KeyedStore) (journal : List Entry) where
  pub shows_list : (view : pairs.Pairs) (namespace after : List ℕ) (limit : ℕ) (keys : List (List ℕ)) → KeepsPairs view store journal
      → ((changes : List Change) → pairs.Means view changes → HaveDistinctPlaces changes → KvListAnswer changes namespace after limit (pairs.keys_listed keys))
      → Shows store journal (kv_list_call namespace after limit) (answers.keys keys)
  shows_list view namespace after limit keys keeps told =
      let there = ((set_makes_views keeps.changes (shown_changes store journal) keeps.listed.same).keys namespace after limit (pairs.keys_listed keys)).0 (told keeps.changes keeps.means keeps.listed.apart) in
      shows_keys namespace after limit (pairs.keys_listed keys) refl there (ap answers.keys (listed_names keys))

  pub shows_names : (view : Places) (after : List ℕ) (limit : ℕ) (page : List Named) → KeepsAliases view store journal
      → ((changes : List Change) → aliases.Means view changes → HaveDistinctPlaces changes → AliasListAnswer changes after limit page)
      → Shows store journal (alias_list_call after limit) (answers.aliases page)
  shows_names view after limit page keeps told =
      let there = ((set_makes_views keeps.changes (shown_changes store journal) keeps.listed.same).names after limit page).0 (told keeps.changes keeps.means keeps.listed.apart) in
      shows_aliases after limit page refl there refl

-- ---- a call, by what is kept

module _ (kept : Kept) (index : IndexSeen) (call here : Call) (is : call ≡ here) where
  abbrev IsAnswered : Result Answer NoMemory → Type 0
  IsAnswered r = IfOk r (λ answer. (store : KeyedStore) (filed : List Filed) → IsKeptOf kept store (journal_of filed) → IsIndexOf index filed → Shows store (journal_of filed) call (words.answer_seen answer))

  -- it is answered from one part of what is kept
  pub by_part : (Keeps : KeyedStore → List Entry → Type 0) → ((store : KeyedStore) (journal : List Entry) → IsKeptOf kept store journal → Keeps store journal) → (r : Result Answer NoMemory)
      → IfOk r (λ answer. (store : KeyedStore) (journal : List Entry) → Keeps store journal → Shows store journal here (words.answer_seen answer)) → IsAnswered r
  by_part Keeps part (Ok answer) told = λ store filed keeps of.
      subst (λ (c : Call). Shows store (journal_of filed) c (words.answer_seen answer)) (sym is) (told store (journal_of filed) (part store (journal_of filed) keeps))
  by_part Keeps part (Err none) told = tt

  -- or from the index
  pub by_index : (r : Result Answer NoMemory) → IfOk r (λ answer. (store : KeyedStore) (filed : List Filed) → IsIndexOf index filed → Shows store (journal_of filed) here (words.answer_seen answer)) → IsAnswered r
  by_index (Ok answer) told = λ store filed keeps of. subst (λ (c : Call). Shows store (journal_of filed) c (words.answer_seen answer)) (sym is) (told store filed of)
  by_index (Err none) told = tt
