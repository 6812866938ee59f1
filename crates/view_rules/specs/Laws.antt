-- The laws of the views, as statements. Each is the contract of the function of its name.
use Rattle.std.specs.Prelude.{◌≡◌, ℕ, List, [], ◌∷◌, ◌++◌, Option, Some, None, true, false, ◌↔◌, ◌⊎◌}
use Rattle.definitions.specs.Calls.{SearchMode}
use Rattle.definitions.specs.Journal.{HistoryRecord}
use Rattle.definitions.specs.Search.{IsAnswer}
use Rattle.record_rules.specs.Records.{SealedRecord, Entry}
use Rattle.record_rules.specs.Journal.{chain, Sound}
use Rattle.payload_rules.specs.Payloads.{Payload}
use Rattle.view_rules.specs.Changes.{Change, SameChanges, HaveDistinctPlaces, viewed, change_of, Opens, OpensOnce, OpensOrNot, ChangesOf, Opening, gives, OpensByTag, changes_of}
use Rattle.view_rules.specs.Views.{Creates, Dead, InHistory, ShowsHistory, of_key, of_name, Says, SaysLast, ShowsKv, ShowsAlias}
use Rattle.view_rules.specs.Standing.{Created, standing, shown_of, last_said, value_of}
use Rattle.view_rules.specs.Answers.{of_all, ScopedQuery, IsScopedAnswer, SearchAnswer, Named, KvListAnswer, AliasListAnswer}

-- ---- from records to changes

-- where a record opens to at most one payload, and of each it is known whether it opens, records have exactly one list of changes
pub record HaveOneList (opens : Opens) : Type 0 where
  pub some : OpensOrNot opens → (records : List SealedRecord) → (changes : List Change) × ChangesOf opens records changes
  pub one : OpensOnce opens → (records : List SealedRecord) (changes others : List Change) → ChangesOf opens records changes → ChangesOf opens records others → changes ≡ others

-- records go on by one: by its change, or by none where it doesn't open
pub record ChangesGoOn (opens : Opens) : Type 0 where
  pub opened : (records : List SealedRecord) (changes : List Change) (r : SealedRecord) (payload : Payload) → ChangesOf opens records changes → opens r payload → ChangesOf opens (records ++ r ∷ []) (changes ++ change_of r payload ∷ [])
  pub unread : (records : List SealedRecord) (changes : List Change) (r : SealedRecord) → ChangesOf opens records changes → ((payload : Payload) → opens r payload → ⊥) → ChangesOf opens (records ++ r ∷ []) changes

-- of an opening that is computed it is the list that is computed
abbrev pub ComputedListIsOf : Type 0
ComputedListIsOf = (opening : Opening) (records : List SealedRecord) → ChangesOf (gives opening) records (changes_of opening records)

-- where owner 0 has the same chains in two journals, they hold the same changes
abbrev pub ChainsMakeChanges : Opens → Type 0
ChainsMakeChanges opens = (journal other : List Entry) (changes others : List Change) → OpensOnce opens → ((host : ℕ) (tag : List ℕ) → chain journal 0 host tag ≡ chain other 0 host tag)
    → ChangesOf opens (viewed journal) changes → ChangesOf opens (viewed other) others → SameChanges changes others

-- the changes of a sound journal stand at places of their own, where records open by their tag
abbrev pub SoundHasDistinctPlaces : Type 0
SoundHasDistinctPlaces = (opening : Opening) (journal : List Entry) (host : ℕ) → OpensByTag opening → Sound journal host → HaveDistinctPlaces (changes_of opening (viewed journal))

-- ---- order of arrival

-- the last change may as well stand first
abbrev pub LastMayStandFirst : Type 0
LastMayStandFirst = (changes : List Change) (c : Change) → SameChanges (changes ++ c ∷ []) (c ∷ changes)

-- all that is shown of one list is shown of the other
pub record SameViews (changes others : List Change) : Type 0 where
  pub dead : (id : ℕ) → Dead changes id ↔ Dead others id
  pub history : (c : Change) (h : HistoryRecord) → InHistory changes c h ↔ InHistory others c h
  pub kv : (namespace key : List ℕ) (c : Change) (said : Option (List ℕ)) → SaysLast (of_key namespace key) changes c said ↔ SaysLast (of_key namespace key) others c said
  pub aliases : (name : List ℕ) (c : Change) (said : Option (List ℕ)) → SaysLast (of_name name) changes c said ↔ SaysLast (of_name name) others c said
  pub search : (asked : ScopedQuery) (page : List HistoryRecord) → SearchAnswer changes asked page ↔ SearchAnswer others asked page
  pub keys : (namespace after : List ℕ) (limit : ℕ) (page : List Named) → KvListAnswer changes namespace after limit page ↔ KvListAnswer others namespace after limit page
  pub names : (after : List ℕ) (limit : ℕ) (page : List Named) → AliasListAnswer changes after limit page ↔ AliasListAnswer others after limit page

-- the views depend on the set of changes alone
abbrev pub SetMakesViews : Type 0
SetMakesViews = (changes others : List Change) → SameChanges changes others → SameViews changes others

-- two journals in which owner 0 has the same chains have the same views
abbrev pub ChainsMakeViews : Type 0
ChainsMakeViews = (opening : Opening) (journal other : List Entry) → ((host : ℕ) (tag : List ℕ) → chain journal 0 host tag ≡ chain other 0 host tag) → SameViews (changes_of opening (viewed journal)) (changes_of opening (viewed other))

-- ---- one change more

-- an id stands dead exactly where it was deleted
abbrev pub DeadStands : Type 0
DeadStands = (changes : List Change) (id : ℕ) → (standing changes id).dead ≡ true ↔ Dead changes id

-- a command is shown exactly where its id stands alive and this is its first creation
abbrev pub FirstIsShown : Type 0
FirstIsShown = (changes : List Change) (h : HistoryRecord) → HaveDistinctPlaces changes → ShowsHistory changes h ↔ ((c : Created) × (shown_of (standing changes h.id) ≡ Some c) × (c.command ≡ h))

-- a value is shown exactly where it was the last that was said
abbrev pub LastIsShownOfKey : Type 0
LastIsShownOfKey = (changes : List Change) (namespace key value : List ℕ) → HaveDistinctPlaces changes → ShowsKv changes namespace key value ↔ value_of (last_said (of_key namespace key) changes) ≡ Some value

abbrev pub LastIsShownOfName : Type 0
LastIsShownOfName = (changes : List Change) (name value : List ℕ) → HaveDistinctPlaces changes → ShowsAlias changes name value ↔ value_of (last_said (of_name name) changes) ≡ Some value

-- ---- one value

-- where no two changes stand at one place, an id has at most one command, a key and a name at most one value
abbrev pub IdHasOneCommand : Type 0
IdHasOneCommand = (changes : List Change) (a b : HistoryRecord) → HaveDistinctPlaces changes → ShowsHistory changes a → ShowsHistory changes b → a.id ≡ b.id → a ≡ b

abbrev pub KeyHasOneValue : Type 0
KeyHasOneValue = (changes : List Change) (namespace key a b : List ℕ) → HaveDistinctPlaces changes → ShowsKv changes namespace key a → ShowsKv changes namespace key b → a ≡ b

abbrev pub NameHasOneValue : Type 0
NameHasOneValue = (changes : List Change) (name a b : List ℕ) → HaveDistinctPlaces changes → ShowsAlias changes name a → ShowsAlias changes name b → a ≡ b

-- ---- answers

-- a search of all commands for the empty text, in either mode and equal ones not dropped, is the plain one over the same
-- commands
abbrev pub PlainSearchIsOfAll : Type 0
PlainSearchIsOfAll = (mode : SearchMode) (offset limit : ℕ) (entries page : List HistoryRecord)
    → IsScopedAnswer (record { scope = of_all; unique = false; query = record { mode = mode; text = []; offset = offset; limit = limit } }) entries page ↔ IsAnswer offset limit entries page

-- a search has at most one answer
abbrev pub SearchHasOneAnswer : Type 0
SearchHasOneAnswer = (changes : List Change) (asked : ScopedQuery) (page other : List HistoryRecord) → SearchAnswer changes asked page → SearchAnswer changes asked other → page ≡ other

-- a list of keys, and one of aliases, has at most one answer
abbrev pub KeysHaveOneAnswer : Type 0
KeysHaveOneAnswer = (changes : List Change) (namespace after : List ℕ) (limit : ℕ) (page other : List Named) → KvListAnswer changes namespace after limit page → KvListAnswer changes namespace after limit other → page ≡ other

abbrev pub NamesHaveOneAnswer : Type 0
NamesHaveOneAnswer = (changes : List Change) (after : List ℕ) (limit : ℕ) (page other : List Named) → AliasListAnswer changes after limit page → AliasListAnswer changes after limit other → page ≡ other

-- where an id was created and isn't dead the history view has a command of it
abbrev pub LivingIdIsShown : Type 0
LivingIdIsShown = (changes : List Change) (c : Change) (h : HistoryRecord) → Creates changes c h → (Dead changes h.id → ⊥) → (shown : HistoryRecord) × ShowsHistory changes shown × (shown.id ≡ h.id)

-- a key of which something was said has a value, unless the last that was said ended it; and so has a name
abbrev pub SetKeyIsShown : Type 0
SetKeyIsShown = (changes : List Change) (namespace key : List ℕ) (c : Change) (said : Option (List ℕ)) → Says (of_key namespace key) changes c said
    → ((value : List ℕ) × ShowsKv changes namespace key value) ⊎ ((d : Change) × SaysLast (of_key namespace key) changes d None)

abbrev pub SetNameIsShown : Type 0
SetNameIsShown = (changes : List Change) (name : List ℕ) (c : Change) (said : Option (List ℕ)) → Says (of_name name) changes c said
    → ((value : List ℕ) × ShowsAlias changes name value) ⊎ ((d : Change) × SaysLast (of_name name) changes d None)
