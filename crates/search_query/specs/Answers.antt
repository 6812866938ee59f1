-- What a search answers, over commands that come the newest first.
use Rattle.std.specs.Prelude.{◌≡◌, ℕ, ◌||◌, not, ◌+◌, ◌/◌, ◌-◌, ◌≤◌, length, ◌^◌, min, map, ◌++◌, List, [], drop, Bool, false, ◌&&◌, cond, bytes_eq, Option, None, Some, IsSome, slice_get}
use Rattle.std.specs.List.Sorted.{IsSortedBy}
use Rattle.std.specs.List.{filter, filter_map, sum_by, AllByRecursion}
use Rattle.history_view.specs.declared.shown.ShownCommand.{ShownCommand}
use Rattle.history_view.specs.declared.walk.Walked.{Walked}
use Rattle.history_view.specs.ViewState.{ViewState}
use Rattle.history_view.specs.Shown.{command_seen}
pub use Rattle.history_view.specs.Buckets.{scope_seen}
use Rattle.history_view.specs.Walk.{shown_command, walked_in, IsRow, AreShown}
use Rattle.history_view.specs.declared.spans.Span.{Span}
use Rattle.history_view.specs.Spans.{IsWithin}
use Rattle.definitions.specs.Journal.{HistoryRecord, HaveDistinctIds}
use Rattle.definitions.specs.Search.{matches_by, is_shown_before, hit_bytes, FitsPage, IsPage}
use Rattle.view_rules.specs.Answers.{ScopedQuery, in_scope, is_found, firsts}
use Rattle.record_model.specs.Seen.{mode_seen}
use Rattle.search_query.specs.Matching.{Wanted}
use Rattle.record_model.specs.declared.asking.Query.{Query}

-- ---- what is asked

abbrev pub query_seen : Query → ScopedQuery
query_seen q = record { scope = scope_seen q.filter; unique = q.unique; query = record { mode = mode_seen q.mode; text = q.text; offset = q.offset; limit = q.limit } }

abbrev pub wanted_of : Query → Wanted
wanted_of query = record { mode = mode_seen query.mode; text = query.text }

-- the test of a command
abbrev pub test_of : Query → List ℕ → Bool
test_of query command = matches_by (mode_seen query.mode) query.text command

-- the answer over commands that come the newest first: of hits with one command only the first, where they are to be unique
abbrev pub uniques : Bool → List HistoryRecord → List HistoryRecord
uniques unique hits = cond unique (firsts hits) hits

abbrev pub IsAnswerOf : Query → (newest page : List HistoryRecord) → Type 0
IsAnswerOf query newest page = IsPage hit_bytes query.limit (drop query.offset (uniques query.unique (filter (is_found (query_seen query)) newest))) page

-- the commands that the view shows, each once, in order
pub record ListsShown (s : ViewState) (newest : List HistoryRecord) : Type 0 where
  pub sorted : IsSortedBy is_shown_before newest
  pub own : HaveDistinctIds (λ (h : HistoryRecord). h.id) newest
  pub shown : AreShown s newest

-- ---- the walk: not trusted

-- commands that a walk has still to look at: all but those that were seen, where hits are to be unique
abbrev pub Seens : Type 0
Seens = List ℕ → Bool

abbrev pub none_seen : Seens
none_seen command = false

abbrev pub more_seen : Bool → Seens → List ℕ → Seens
more_seen unique seen command other = seen other || unique && bytes_eq other command

-- what is remembered of texts is so: whether one matches and wasn't seen; of the others none was seen
abbrev pub IsMemo : (command : List ℕ) → (test : List ℕ → Bool) → Seens → Option Bool → Type 0
IsMemo command test seen None = seen command ≡ false
IsMemo command test seen (Some b) = b ≡ (test command && not (seen command))

abbrev pub Remembers : (texts : List (List ℕ)) → (test : List ℕ → Bool) → Seens → List (Option Bool) → Type 0
Remembers texts test seen memo = (n : ℕ) (o : Option Bool) (command : List ℕ) → slice_get memo n ≡ Some o → slice_get texts n ≡ Some command → IsMemo command test seen o

-- of each text it is known whether it matches
abbrev pub IsKnown : List (Option Bool) → Type 0
IsKnown memo = (n : ℕ) (o : Option Bool) → slice_get memo n ≡ Some o → IsSome o

-- and it is what the test says
abbrev pub IsTold : (texts : List (List ℕ)) → (test : List ℕ → Bool) → List (Option Bool) → Type 0
IsTold texts test memo = (n : ℕ) (o : Option Bool) (command : List ℕ) → slice_get memo n ≡ Some o → slice_get texts n ≡ Some command → o ≡ Some (test command)

-- one fewer of so many, or of all; nothing where none is left
abbrev pub IsOneFewer : (left : Option ℕ) → Option (Option ℕ) → Type 0
IsOneFewer left None = left ≡ Some 0
IsOneFewer left (Some None) = left ≡ None
IsOneFewer left (Some (Some many)) = left ≡ Some (many + 1)

-- so many tests were made, and no more than so many commands were walked to, where there is such a bound
abbrev pub IsBounded : (first steps : ℕ) → (most left : Option ℕ) → Type 0
IsBounded first steps None left = left ≡ None
IsBounded first steps (Some most) left = (many : ℕ) × (left ≡ Some many) × (steps + many ≤ first + most)

-- of the texts of a block none matches
abbrev pub PassesBy : (texts : List (List ℕ)) → (test : List ℕ → Bool) → ℕ → Type 0
PassesBy texts test i = (n : ℕ) (command : List ℕ) → n / 64 ≡ i → slice_get texts n ≡ Some command → test command ≡ false

abbrev pub seen_of : List ShownCommand → List HistoryRecord
seen_of hits = map command_seen hits

-- what the hits weigh, as far as it can be counted
abbrev pub weight_of : List ShownCommand → ℕ
weight_of hits = min (sum_by hit_bytes (seen_of hits)) (2 ^ 64 - 1)

-- what passes of what may be there
abbrev pub kept : (HistoryRecord → Bool) → Option HistoryRecord → Option HistoryRecord
kept passes None = None
kept passes (Some h) = cond (passes h) (Some h) None

abbrev pub is_new : Query → Seens → HistoryRecord → Bool
is_new query seen h = is_found (query_seen query) h && not (seen h.command)

-- the hit that was walked to
abbrev pub hit_at : Query → Seens → ViewState → Walked → Option HistoryRecord
hit_at query seen s w = kept (is_new query seen) (shown_command s w.id)

-- what was seen once this was, or was no hit
abbrev pub seen_after : Bool → Seens → Option HistoryRecord → Seens
seen_after unique seen None = seen
seen_after unique seen (Some h) = more_seen unique seen h.command

-- what the hits so far and those that are left make
abbrev pub answer_from : Query → Seens → ViewState → (skip : ℕ) → List ShownCommand → List Walked → List HistoryRecord
answer_from query seen s skip hits ws = seen_of hits ++ drop skip (uniques query.unique (filter_map (hit_at query seen s) ws))

-- how many of what is left pass the filter
abbrev pub passing : Query → ViewState → List Walked → ℕ
passing query s ws = length (filter_map (λ (w : Walked). kept (in_scope (scope_seen query.filter)) (shown_command s w.id)) ws)

-- what is to be walked to, all that is shown or a part, makes the whole answer
pub record MakesAnswer (query : Query) (s : ViewState) (ws : List Walked) : Type 0 where
  pub rows : AllByRecursion (IsRow s) ws
  pub whole : answer_from query none_seen s query.offset [] ws ≡ answer_from query none_seen s query.offset [] (walked_in s.order)
  pub few : passing query s ws ≤ passing query s (walked_in s.order)

-- what may be a hit, by what is remembered of texts, began within the span
abbrev pub SpansHits : ViewState → List (Option Bool) → Span → Type 0
SpansHits s memo span = (w : Walked) → IsRow s w → (slice_get memo w.numbers.command ≡ Some (Some false) → ⊥) → IsWithin span w.timestamp

-- a walk on the way
pub record IsOnWay (query : Query) (s : ViewState) (all left : List Walked) (memo : List (Option Bool)) (hits : List ShownCommand) (bytes skip first steps : ℕ) : Type 0 where
  pub seen : Seens
  pub remembers : Remembers s.texts (test_of query) seen memo
  pub long : length memo ≡ length s.texts
  pub rows : AllByRecursion (IsRow s) left
  pub weighed : bytes ≡ weight_of hits
  pub fits : FitsPage hit_bytes query.limit (seen_of hits)
  pub whole : answer_from query seen s skip hits left ≡ answer_from query none_seen s query.offset [] all
  pub counted : steps + passing query s left ≤ first + passing query s all
