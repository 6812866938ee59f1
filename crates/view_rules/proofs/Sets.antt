-- The views depend on the set of changes alone.
use Rattle.std.proofs.Common.{ℕ, List, [], ◌∷◌, ◌++◌, Option, Some, inl, inr}
use Rattle.std.specs.List.{Contains}
use Rattle.definitions.specs.Journal.{HistoryRecord}
use Rattle.record_rules.proofs.Members.{Has, Has-append}
use Rattle.view_rules.specs.Changes.{Change, SameChanges, viewed, gives, changes_of}
use Rattle.view_rules.specs.Views.{Creates, Dead, by_deletion, by_creation, InHistory, ShowsHistory, Saying, of_key, of_name, Says, SaysLast, ShowsAlias}
use Rattle.view_rules.specs.Answers.{ScopedQuery, ListsHistory, SearchAnswer, Named, IsListOf, IsKey, KvListAnswer, AliasListAnswer}
use Rattle.view_rules.specs.Laws.{SameViews, ChainsMakeViews, LastMayStandFirst}
use Rattle.view_rules.proofs.Records.{Has-from_Contains, Contains-from_Has, Has-joined, chains_make_changes, gives_once, computed_list}

-- each change of the one list is in the other
abbrev Into : (changes others : List Change) → Type 0
Into changes others = (c : Change) → Contains changes c → Contains others c

module _ (changes others : List Change) (there : Into changes others) where
  creates_there : (c : Change) (h : HistoryRecord) → Creates changes c h → Creates others c h
  creates_there c h made = record { among = there c made.among; creates = made.creates }

  dead_there : (id : ℕ) → Dead changes id → Dead others id
  dead_there id (by_deletion c among gone) = by_deletion c (there c among) gone
  dead_there id (by_creation c h time made same deleted) = by_creation c h time (creates_there c h made) same deleted

  says_there : (saying : Saying) (c : Change) (said : Option (List ℕ)) → Says saying changes c said → Says saying others c said
  says_there saying c said s = record { among = there c s.among; says = s.says }

module _ (changes others : List Change) (there : Into changes others) (back : Into others changes) where
  history_there : (c : Change) (h : HistoryRecord) → InHistory changes c h → InHistory others c h
  history_there c h p = record {
    created = creates_there changes others there c h p.created;
    alive = λ dead. p.alive (dead_there others changes back h.id dead);
    first = λ d other made same less. p.first d other (creates_there others changes back d other made) same less;
  }

  shows_there : (h : HistoryRecord) → ShowsHistory changes h → ShowsHistory others h
  shows_there h p = (p.0, history_there p.0 h p.1)

  last_there : (saying : Saying) (c : Change) (said : Option (List ℕ)) → SaysLast saying changes c said → SaysLast saying others c said
  last_there saying c said p = record {
    here = says_there changes others there saying c said p.here;
    last = λ d other says less. p.last d other (says_there others changes back saying d other says) less;
  }

  key_there : (namespace : List ℕ) (item : Named) → IsKey changes namespace item → IsKey others namespace item
  key_there namespace item p = (p.0, (p.1.0, (p.1.1.0, last_there (of_key namespace item.name) p.1.1.0 (Some p.1.0) p.1.1.1)))

  alias_there : (item : Named) → ShowsAlias changes item.name item.value → ShowsAlias others item.name item.value
  alias_there item p = (p.0, last_there (of_name item.name) p.0 (Some item.value) p.1)

-- a list of the names that are there is one of those that are there as well
list_there : (There Other : Named → Type 0) (after : List ℕ) (limit : ℕ) (page : List Named) → ((item : Named) → There item → Other item) → ((item : Named) → Other item → There item) → IsListOf There after limit page → IsListOf Other after limit page
list_there There Other after limit page there back p = record {
  all = p.all;
  same = λ item. (λ m. let h = (p.same item).0 m in (there item h.0, h.1), λ h. (p.same item).1 (back item h.0, h.1));
  rises = p.rises;
  cut = p.cut;
}

module _ (changes others : List Change) (there : Into changes others) (back : Into others changes) where
  search_there : (asked : ScopedQuery) (page : List HistoryRecord) → SearchAnswer changes asked page → SearchAnswer others asked page
  search_there asked page p =
      let listed : ListsHistory others p.entries = record {
        own = p.listed.own;
        same = λ h. (λ m. shows_there changes others there back h ((p.listed.same h).0 m), λ s. (p.listed.same h).1 (shows_there others changes back there h s));
      } in
      record { entries = p.entries; listed = listed; answer = p.answer }

  keys_there : (namespace after : List ℕ) (limit : ℕ) (page : List Named) → KvListAnswer changes namespace after limit page → KvListAnswer others namespace after limit page
  keys_there namespace after limit page = list_there (IsKey changes namespace) (IsKey others namespace) after limit page (key_there changes others there back namespace) (key_there others changes back there namespace)

  names_list_there : (after : List ℕ) (limit : ℕ) (page : List Named) → AliasListAnswer changes after limit page → AliasListAnswer others after limit page
  names_list_there after limit page = list_there (λ (item : Named). ShowsAlias changes item.name item.value) (λ (item : Named). ShowsAlias others item.name item.value) after limit page (alias_there changes others there back) (alias_there others changes back there)

pub set_makes_views : (changes others : List Change) → SameChanges changes others → SameViews changes others
set_makes_views changes others same =
    let there : Into changes others = λ c. (same c).0 in
    let back : Into others changes = λ c. (same c).1 in
    record {
      dead = λ id. (dead_there changes others there id, dead_there others changes back id);
      history = λ c h. (history_there changes others there back c h, history_there others changes back there c h);
      kv = λ namespace key c said. (last_there changes others there back (of_key namespace key) c said, last_there others changes back there (of_key namespace key) c said);
      aliases = λ name c said. (last_there changes others there back (of_name name) c said, last_there others changes back there (of_name name) c said);
      search = λ asked page. (search_there changes others there back asked page, search_there others changes back there asked page);
      keys = λ namespace after limit page. (keys_there changes others there back namespace after limit page, keys_there others changes back there namespace after limit page);
      names = λ after limit page. (names_list_there changes others there back after limit page, names_list_there others changes back there after limit page);
    }

pub chains_make_views : ChainsMakeViews
chains_make_views opening journal other same =
    let changes = changes_of opening (viewed journal) in
    let others = changes_of opening (viewed other) in
    set_makes_views changes others (chains_make_changes (gives opening) journal other changes others (gives_once opening) same (computed_list opening (viewed journal)) (computed_list opening (viewed other)))

-- ---- the last one first

to_front : (changes : List Change) (c d : Change) → Has (changes ++ c ∷ []) d → Has (c ∷ changes) d
to_front changes c d has = elim (Has-append changes (c ∷ []) d has) [
  | inl m ↦ inr m
  | inr m ↦ elim m [
    | inl e ↦ inl e
    | inr none ↦ absurd none
  ]
]

to_end : (changes : List Change) (c d : Change) → Has (c ∷ changes) d → Has (changes ++ c ∷ []) d
to_end changes c d (inl e) = Has-joined changes (c ∷ []) d (inr (inl e))
to_end changes c d (inr m) = Has-joined changes (c ∷ []) d (inl m)

pub stands_first : LastMayStandFirst
stands_first changes c d = (
  λ among. Contains-from_Has (c ∷ changes) d (to_front changes c d (Has-from_Contains (changes ++ c ∷ []) d among)),
  λ among. Contains-from_Has (changes ++ c ∷ []) d (to_end changes c d (Has-from_Contains (c ∷ changes) d among)),
)
