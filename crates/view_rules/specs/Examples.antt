-- Worked examples: views and searches of a few changes, with the values written out.
use Rattle.std.specs.Prelude.{◌≡◌, ℕ, pos, List, [], ◌∷◌, length, codes, Bool, true, false, Option, Some, None, ◌⊎◌, ◌==◌, if◌then◌else◌}
use Rattle.definitions.specs.Calls.{SearchMode, by_prefix, by_substring}
use Rattle.definitions.specs.Journal.{HistoryRecord}
use Rattle.definitions.specs.Search.{FitsPage}
use Rattle.record_rules.specs.Records.{SealedRecord}
use Rattle.payload_rules.specs.Payloads.{Payload, HistoryCreate, HistoryDelete, KvSet, KvDelete, AliasSet, AliasDelete, alias_tag}
use Rattle.view_rules.specs.Changes.{Change, SameChanges, ChangesOf, Opening, gives, changes_of}
use Rattle.view_rules.specs.Views.{ShowsHistory, ShowsKv, ShowsAlias}
use Rattle.view_rules.specs.Answers.{Scope, of_all, of_hostname, of_session, of_cwd, ScopedQuery, is_found, IsScopedAnswer, SearchAnswer, Named, named_bytes, IsListOf, KvListAnswer, AliasListAnswer}
use Rattle.view_rules.specs.Laws.{SameViews}

-- ---- changes

abbrev pub change_at : (host idx timestamp : ℕ) → Payload → Change
change_at host idx timestamp payload = record { host = host; idx = idx; timestamp = timestamp; payload = payload }

abbrev pub ended_at : (id timestamp : ℕ) (command : List ℕ) (deleted_at : Option ℕ) → HistoryRecord
ended_at id timestamp command deleted_at = record { id = id; timestamp = timestamp; duration = pos 1000; exit = pos 0; command = command; cwd = codes "/"; session = codes "s1"; hostname = codes "h:u"; deleted_at = deleted_at; author = None }

-- ---- records that open by their id

abbrev pub record_at : (host idx id : ℕ) → SealedRecord
record_at host idx id = record { id = id; idx = idx; host = host; host_name = []; timestamp = 10; version = codes "v0"; tag = alias_tag; sealed = []; wrapped = [] }

-- the record with id 1 opens, and no other
abbrev pub opens_first : Opening
opens_first r = if r.id == 1 then Some (AliasDelete (codes "g")) else None

pub record WorkedChanges : Type 0 where
  -- of three records the second one opens
  pub second : changes_of opens_first (record_at 1 0 7 ∷ record_at 1 1 1 ∷ record_at 2 0 8 ∷ []) ≡ change_at 1 1 10 (AliasDelete (codes "g")) ∷ []
  pub none : changes_of opens_first (record_at 1 0 7 ∷ []) ≡ []
  -- and there is no other list
  pub listed : ChangesOf (gives opens_first) (record_at 1 0 7 ∷ record_at 1 1 1 ∷ []) (change_at 1 1 10 (AliasDelete (codes "g")) ∷ [])
  pub not_left_out : ChangesOf (gives opens_first) (record_at 1 1 1 ∷ []) [] → ⊥

-- ---- a command that was deleted on another host

abbrev pub creation : Change
creation = change_at 2 0 10 (HistoryCreate (ended_at 9 100 (codes "ls") None))

abbrev pub deletion : Change
deletion = change_at 3 0 20 (HistoryDelete 9)

-- a creation of the same id at a lesser host, and at a lesser idx of the same host
abbrev pub lesser_host : Change
lesser_host = change_at 1 7 30 (HistoryCreate (ended_at 9 200 (codes "pwd") None))

abbrev pub greater_idx : Change
greater_idx = change_at 2 1 5 (HistoryCreate (ended_at 9 300 (codes "cd") None))

-- a creation that says that it was deleted
abbrev pub deleted_creation : Change
deleted_creation = change_at 4 0 40 (HistoryCreate (ended_at 9 100 (codes "ls") (Some 400)))

pub record WorkedHistory : Type 0 where
  pub shown : ShowsHistory (creation ∷ []) (ended_at 9 100 (codes "ls") None)
  -- a deletion hides the command whether it comes before its creation or after it
  pub deleted_before : (h : HistoryRecord) → ShowsHistory (deletion ∷ creation ∷ []) h → ⊥
  pub deleted_after : (h : HistoryRecord) → ShowsHistory (creation ∷ deletion ∷ []) h → ⊥
  -- and so does a creation that says when it was deleted
  pub deleted_at : (h : HistoryRecord) → ShowsHistory (deleted_creation ∷ creation ∷ []) h → ⊥
  -- a search shows nothing, before the creation comes and after it
  pub search_before : (asked : ScopedQuery) (page : List HistoryRecord) → SearchAnswer (deletion ∷ []) asked page → page ≡ []
  pub search_after : (asked : ScopedQuery) (page : List HistoryRecord) → SearchAnswer (deletion ∷ creation ∷ []) asked page → page ≡ []
  pub search_answered : (asked : ScopedQuery) → SearchAnswer (deletion ∷ creation ∷ []) asked []
  -- of two creations of one id that of the lesser host is shown, whatever its idx; of one host that of the lesser idx
  pub least_host : ShowsHistory (creation ∷ lesser_host ∷ []) (ended_at 9 200 (codes "pwd") None)
  pub least_idx : ShowsHistory (greater_idx ∷ creation ∷ []) (ended_at 9 100 (codes "ls") None)
  pub not_the_greater_idx : ShowsHistory (greater_idx ∷ creation ∷ []) (ended_at 9 300 (codes "cd") None) → ⊥
  pub only_one : ShowsHistory (creation ∷ lesser_host ∷ []) (ended_at 9 100 (codes "ls") None) → ⊥

-- ---- an alias of two hosts

abbrev pub of_host_2 : Change
of_host_2 = change_at 2 1 5 (AliasSet (codes "g") (codes "two"))

abbrev pub of_host_3 : Change
of_host_3 = change_at 3 0 5 (AliasSet (codes "g") (codes "three"))

abbrev pub ended_later : Change
ended_later = change_at 1 0 6 (AliasDelete (codes "g"))

abbrev pub ended_earlier : Change
ended_earlier = change_at 4 9 4 (AliasDelete (codes "g"))

pub record WorkedAliases : Type 0 where
  -- of one time the greater host's counts, in either order of arrival
  pub in_order : ShowsAlias (of_host_2 ∷ of_host_3 ∷ []) (codes "g") (codes "three")
  pub out_of_order : ShowsAlias (of_host_3 ∷ of_host_2 ∷ []) (codes "g") (codes "three")
  pub not_the_lesser : ShowsAlias (of_host_3 ∷ of_host_2 ∷ []) (codes "g") (codes "two") → ⊥
  -- a later deletion ends it, whichever host it is of and whenever it comes; an earlier one doesn't
  pub ended : (value : List ℕ) → ShowsAlias (ended_later ∷ of_host_3 ∷ []) (codes "g") value → ⊥
  pub not_ended : ShowsAlias (of_host_3 ∷ ended_earlier ∷ []) (codes "g") (codes "three")
  pub no_other : (value : List ℕ) → ShowsAlias (of_host_3 ∷ []) (codes "zz") value → ⊥

-- ---- a key

abbrev pub early : Change
early = change_at 3 4 5 (KvSet (codes "n") (codes "k") (codes "early"))

abbrev pub late : Change
late = change_at 1 0 6 (KvSet (codes "n") (codes "k") (codes "late"))

abbrev pub again : Change
again = change_at 1 1 6 (KvSet (codes "n") (codes "k") (codes "again"))

-- deletions of the pair: older than `late`, and newer
abbrev pub old_deletion : Change
old_deletion = change_at 4 0 5 (KvDelete (codes "n") (codes "k"))

abbrev pub new_deletion : Change
new_deletion = change_at 4 1 7 (KvDelete (codes "n") (codes "k"))

pub record WorkedKeys : Type 0 where
  pub set : ShowsKv (early ∷ []) (codes "n") (codes "k") (codes "early")
  pub other_key : (value : List ℕ) → ShowsKv (early ∷ []) (codes "n") (codes "x") value → ⊥
  pub other_namespace : (value : List ℕ) → ShowsKv (early ∷ []) (codes "x") (codes "k") value → ⊥
  -- the later time counts before host and idx, and of one time and host the greater idx
  pub later : ShowsKv (late ∷ early ∷ []) (codes "n") (codes "k") (codes "late")
  pub not_the_earlier : ShowsKv (late ∷ early ∷ []) (codes "n") (codes "k") (codes "early") → ⊥
  pub greater : ShowsKv (again ∷ late ∷ []) (codes "n") (codes "k") (codes "again")
  -- a deletion of the pair that is older than the setting leaves the value, though it comes behind it; a newer one ends it,
  -- though it comes before it
  pub outlived : ShowsKv (old_deletion ∷ late ∷ []) (codes "n") (codes "k") (codes "late")
  pub ended : (value : List ℕ) → ShowsKv (late ∷ new_deletion ∷ []) (codes "n") (codes "k") value → ⊥

-- ---- searches: `a`, `b`, `a` ended in turn

abbrev pub first_a : HistoryRecord
first_a = ended_at 1 1 (codes "a") None

abbrev pub only_b : HistoryRecord
only_b = ended_at 2 2 (codes "b") None

abbrev pub last_a : HistoryRecord
last_a = ended_at 3 3 (codes "a") None

abbrev pub search_for : Scope → Bool → SearchMode → List ℕ → (offset limit : ℕ) → ScopedQuery
search_for scope unique mode text offset limit = record { scope = scope; unique = unique; query = record { mode = mode; text = text; offset = offset; limit = limit } }

abbrev pub git : HistoryRecord
git = ended_at 4 4 (codes "git status") None

pub record WorkedSearches : Type 0 where
  pub newest_first : IsScopedAnswer (search_for of_all false by_prefix [] 0 10) (first_a ∷ only_b ∷ last_a ∷ []) (last_a ∷ only_b ∷ first_a ∷ [])
  -- unique: the newer `a`, then `b`
  pub unique : IsScopedAnswer (search_for of_all true by_prefix [] 0 10) (first_a ∷ only_b ∷ last_a ∷ []) (last_a ∷ only_b ∷ [])
  -- what doesn't match isn't shown
  pub matching : IsScopedAnswer (search_for of_all false by_prefix (codes "b") 0 10) (first_a ∷ only_b ∷ last_a ∷ []) (only_b ∷ [])
  pub limit_1 : IsScopedAnswer (search_for of_all true by_prefix [] 0 1) (first_a ∷ only_b ∷ last_a ∷ []) (last_a ∷ [])
  -- the offset is counted after equal commands were dropped
  pub offset_1 : IsScopedAnswer (search_for of_all true by_prefix [] 1 10) (first_a ∷ only_b ∷ last_a ∷ []) (only_b ∷ [])
  pub offset_5 : IsScopedAnswer (search_for of_all true by_prefix [] 5 10) (first_a ∷ only_b ∷ last_a ∷ []) []
  -- a query with capitals is compared exactly, one without with letters folded
  pub capitals : is_found (search_for of_all false by_prefix (codes "GIT") 0 10) git ≡ false
  pub prefix : is_found (search_for of_all false by_prefix (codes "git") 0 10) git ≡ true
  pub within : is_found (search_for of_all false by_substring (codes "STAT") 0 10) git ≡ false
  pub folded : is_found (search_for of_all false by_substring (codes "stat") 0 10) git ≡ true
  pub other_session : is_found (search_for (of_session (codes "s2")) false by_prefix [] 0 10) git ≡ false
  pub own_session : is_found (search_for (of_session (codes "s1")) false by_prefix [] 0 10) git ≡ true
  pub other_hostname : is_found (search_for (of_hostname (codes "s1")) false by_prefix [] 0 10) git ≡ false
  pub own_hostname : is_found (search_for (of_hostname (codes "h:u")) false by_prefix [] 0 10) git ≡ true
  pub other_cwd : is_found (search_for (of_cwd (codes "h:u")) false by_prefix [] 0 10) git ≡ false
  pub own_cwd : is_found (search_for (of_cwd (codes "/")) false by_prefix [] 0 10) git ≡ true

-- ---- lists of names: `b`, the empty name and `a`, of which the list has no values

abbrev pub named : List ℕ → Named
named name = record { name = name; value = [] }

abbrev pub is_one_of_three : Named → Type 0
is_one_of_three item = (item ≡ named (codes "b")) ⊎ ((item ≡ named []) ⊎ (item ≡ named (codes "a")))

pub record WorkedLists : Type 0 where
  -- from the least name on, the empty one included, in rising order
  pub from_start : IsListOf is_one_of_three [] 10 (named [] ∷ named (codes "a") ∷ named (codes "b") ∷ [])
  -- above a name that may be one of them or none
  pub above_a : IsListOf is_one_of_three (codes "a") 10 (named (codes "b") ∷ [])
  pub above_ab : IsListOf is_one_of_three (codes "ab") 10 (named (codes "b") ∷ [])
  -- one at a time
  pub limit_1 : IsListOf is_one_of_three [] 1 (named [] ∷ [])
  -- names and values of 4,194,304 bytes together are shown, of one byte more not, but for a single one
  pub at_most : (value : List ℕ) → length value ≡ 4194302 → FitsPage named_bytes 10 (record { name = codes "a"; value = value } ∷ named (codes "b") ∷ [])
  pub above : (value : List ℕ) → length value ≡ 4194303 → FitsPage named_bytes 10 (record { name = codes "a"; value = value } ∷ named (codes "b") ∷ []) → ⊥
  pub single : (value : List ℕ) → length value ≡ 5000000 → FitsPage named_bytes 10 (record { name = codes "a"; value = value } ∷ [])

-- ---- lists that are the same, and the names that views show

-- changes that hold what others do, and stand at another host
abbrev pub creation_elsewhere : Change
creation_elsewhere = change_at 7 0 10 (HistoryCreate (ended_at 9 100 (codes "ls") None))

abbrev pub early_elsewhere : Change
early_elsewhere = change_at 7 4 5 (KvSet (codes "n") (codes "k") (codes "early"))

abbrev pub alias_elsewhere : Change
alias_elsewhere = change_at 7 0 5 (AliasSet (codes "g") (codes "three"))

pub record WorkedViews : Type 0 where
  -- the same changes in another order, one of them twice; and lists of which one has a change more
  pub same_set : SameChanges (creation ∷ deletion ∷ []) (deletion ∷ creation ∷ creation ∷ [])
  pub one_less : SameChanges (creation ∷ deletion ∷ []) (creation ∷ []) → ⊥
  pub one_more : SameChanges (creation ∷ []) (creation ∷ deletion ∷ []) → ⊥
  -- an id that is dead in one of two alone, though neither shows a command
  pub dead_in_one : SameViews (deletion ∷ []) [] → ⊥
  -- the same command, value and alias, each of another change
  pub other_creation : SameViews (creation ∷ []) (creation_elsewhere ∷ []) → ⊥
  pub other_setting : SameViews (early ∷ []) (early_elsewhere ∷ []) → ⊥
  pub other_alias : SameViews (of_host_3 ∷ []) (alias_elsewhere ∷ []) → ⊥
  -- a key that was set twice is listed once, without a value, and not above itself or in another namespace
  pub key_listed : KvListAnswer (late ∷ early ∷ []) (codes "n") [] 10 (named (codes "k") ∷ [])
  pub no_key_above : KvListAnswer (late ∷ early ∷ []) (codes "n") (codes "k") 10 []
  pub no_key_fits : KvListAnswer (late ∷ early ∷ []) (codes "n") [] 0 []
  pub no_other_key : KvListAnswer (late ∷ early ∷ []) (codes "x") [] 10 []
  -- an alias is listed with its value, and one that was ended isn't
  pub alias_listed : AliasListAnswer (of_host_3 ∷ ended_earlier ∷ []) [] 10 (record { name = codes "g"; value = codes "three" } ∷ [])
  pub no_alias_above : AliasListAnswer (of_host_3 ∷ ended_earlier ∷ []) (codes "g") 10 []
  pub no_alias_fits : AliasListAnswer (of_host_3 ∷ ended_earlier ∷ []) [] 0 []
  -- a search shows a command of the view
  pub command_found : SearchAnswer (creation ∷ []) (search_for of_all false by_prefix [] 0 10) (ended_at 9 100 (codes "ls") None ∷ [])
  pub ended_unlisted : AliasListAnswer (ended_later ∷ of_host_3 ∷ []) [] 10 []
