-- What a search and a list of names show of the views.
use Rattle.std.specs.Prelude.{◌≡◌, ℕ, ◌+◌, List, [], ◌∷◌, length, drop, Bool, true, not, ◌&&◌, cond, bytes_eq, ◌⊎◌, ◌↔◌}
use Rattle.std.specs.List.{Contains, filter, AllByRecursion}
use Rattle.std.specs.List.Sorted.{IsPermutation, IsSortedBy}
use Rattle.std.specs.declared.cmp.Ordering.TheVariants.{Less}
use Rattle.std.specs.Ordering.{nat_cmp}
use Rattle.std.specs.Cmp.Lexicographic.{slice_cmp}
use Rattle.definitions.specs.Calls.{SearchQuery}
use Rattle.definitions.specs.Journal.{HistoryRecord, HaveDistinctIds}
use Rattle.definitions.specs.Search.{matches_by, is_shown_before, hit_bytes, IsPage}
use Rattle.view_rules.specs.Changes.{Change}
use Rattle.view_rules.specs.Views.{ShowsHistory, ShowsKv, ShowsAlias}

-- ---- searches

-- of which commands a search is: all, those of a host name, of a session, or of a working directory
pub data Scope : Type 0 where
  of_all : Scope
  of_hostname : List ℕ → Scope
  of_session : List ℕ → Scope
  of_cwd : List ℕ → Scope

abbrev pub in_scope : Scope → HistoryRecord → Bool
in_scope of_all h = true
in_scope (of_hostname text) h = bytes_eq h.hostname text
in_scope (of_session text) h = bytes_eq h.session text
in_scope (of_cwd text) h = bytes_eq h.cwd text

pub record ScopedQuery : Type 0 where
  pub scope : Scope
  pub unique : Bool
  pub query : SearchQuery

-- the command is within the scope and matches the query
abbrev pub is_found : ScopedQuery → HistoryRecord → Bool
is_found asked h = in_scope asked.scope h && matches_by asked.query.mode asked.query.text h.command

-- of the hits with one command text only the first
abbrev pub firsts : List HistoryRecord → List HistoryRecord
firsts [] = []
firsts (h ∷ hits) = h ∷ filter (λ (later : HistoryRecord). not (bytes_eq later.command h.command)) (firsts hits)

-- the answer over these commands: those that are found, in order, of equal ones only the first where they are to be
-- unique, without the first `offset`, and as many as fit
pub record IsScopedAnswer (asked : ScopedQuery) (entries page : List HistoryRecord) : Type 0 where
  pub in_order : List HistoryRecord
  pub found : IsPermutation (filter (is_found asked) entries) in_order
  pub sorted : IsSortedBy is_shown_before in_order
  pub cut : IsPage hit_bytes asked.query.limit (drop asked.query.offset (cond asked.unique (firsts in_order) in_order)) page

-- the list has each command of the history view once, and no other
pub record ListsHistory (changes : List Change) (entries : List HistoryRecord) : Type 0 where
  pub own : HaveDistinctIds (λ (h : HistoryRecord). h.id) entries
  pub same : (h : HistoryRecord) → Contains entries h ↔ ShowsHistory changes h

-- the answer over the history view
pub record SearchAnswer (changes : List Change) (asked : ScopedQuery) (page : List HistoryRecord) : Type 0 where
  pub entries : List HistoryRecord
  pub listed : ListsHistory changes entries
  pub answer : IsScopedAnswer asked entries page

-- ---- lists of names

-- the name stands above `after` by its bytes; the empty `after` stands before every name, the empty one included
abbrev pub IsAbove : (after name : List ℕ) → Type 0
IsAbove after name = (after ≡ []) ⊎ (slice_cmp nat_cmp after name ≡ Less)

-- a name with its value, or with none where only names are listed
pub record Named : Type 0 where
  pub name : List ℕ
  pub value : List ℕ

abbrev pub named_bytes : Named → ℕ
named_bytes item = length item.name + length item.value

-- each name stands below all later ones
abbrev pub Rises : List Named → Type 0
Rises [] = Unit {0}
Rises (item ∷ items) = AllByRecursion (λ (later : Named). slice_cmp nat_cmp item.name later.name ≡ Less) items × Rises items

-- of the names that are there, those above `after` in rising order, as many of the first as one reply may show
pub record IsListOf (There : Named → Type 0) (after : List ℕ) (limit : ℕ) (page : List Named) : Type 0 where
  pub all : List Named
  pub same : (item : Named) → Contains all item ↔ (There item × IsAbove after item.name)
  pub rises : Rises all
  pub cut : IsPage named_bytes limit all page

-- the keys of a namespace that have a value; the values aren't shown
abbrev pub IsKey : List Change → (namespace : List ℕ) → Named → Type 0
IsKey changes namespace item = (item.value ≡ []) × ((value : List ℕ) × ShowsKv changes namespace item.name value)

abbrev pub KvListAnswer : List Change → (namespace after : List ℕ) → ℕ → List Named → Type 0
KvListAnswer changes namespace after limit page = IsListOf (IsKey changes namespace) after limit page

-- the names that stand for a value, each with it
abbrev pub AliasListAnswer : List Change → (after : List ℕ) → ℕ → List Named → Type 0
AliasListAnswer changes after limit page = IsListOf (λ (item : Named). ShowsAlias changes item.name item.value) after limit page
