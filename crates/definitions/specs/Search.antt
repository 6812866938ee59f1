-- Search: what it is for a query to match, in which order commands are shown, and how many of them.
use Rattle.std.specs.Prelude.{◌≡◌, ℕ, ◌+◌, ◌≤◌, List, [], ◌∷◌, ◌++◌, map, length, drop, Option, Some, None, Bool, ◌&&◌, ◌||◌, cond, eqb, nat_lt, ◌==◌, ◌⊎◌}
use Rattle.std.specs.List.{list_any, starts_with, sum_by}
use Rattle.std.specs.List.Sorted.{IsPermutation, IsSortedBy}
use Rattle.std.specs.Char.{is_ascii_uppercase, to_ascii_lowercase}
use Rattle.definitions.specs.Limits.{most_shown_bytes}
use Rattle.definitions.specs.Calls.{SearchMode, by_prefix, by_substring}
use Rattle.definitions.specs.Journal.{HistoryRecord}

-- Smart case: a query without ASCII capitals is compared with the command's ASCII letters folded, any other exactly.
abbrev pub compared : List ℕ → List ℕ → List ℕ
compared query command = cond (list_any is_ascii_uppercase query) command (map to_ascii_lowercase command)

-- the query stands somewhere in the text
abbrev pub stands_in : List ℕ → List ℕ → Bool
stands_in query [] = starts_with eqb [] query
stands_in query (byte ∷ text) = starts_with eqb (byte ∷ text) query || stands_in query text

abbrev pub matches_by : SearchMode → List ℕ → List ℕ → Bool
matches_by by_prefix query command = starts_with eqb (compared query command) query
matches_by by_substring query command = stands_in query (compared query command)

-- the newer command is shown first, and of two with one time the one with the lesser id
abbrev pub is_shown_before : HistoryRecord → HistoryRecord → Bool
is_shown_before a b = nat_lt b.timestamp a.timestamp || (a.timestamp == b.timestamp) && nat_lt a.id b.id

abbrev pub author_length : Option (List ℕ) → ℕ
author_length None = 0
author_length (Some author) = length author

-- the bytes of a command's texts: command, working directory, session, host name and, where there is one, author
abbrev pub hit_bytes : HistoryRecord → ℕ
hit_bytes h = length h.command + length h.cwd + length h.session + length h.hostname + author_length h.author

-- items that one reply may show: at most so many, and, where there are several, so light together
abbrev pub FitsPage : {X : Type 0} → (X → ℕ) → ℕ → List X → Type 0
FitsPage bytes_of limit items = (length items ≤ limit) × ((length items ≤ 1) ⊎ (sum_by bytes_of items ≤ most_shown_bytes))

-- as many of the first items as one reply may show
pub record IsPage {X : Type 0} (bytes_of : X → ℕ) (limit : ℕ) (all page : List X) : Type 0 where
  pub rest : List X
  pub begins : all ≡ page ++ rest
  pub fits : FitsPage bytes_of limit page
  pub most : (next : X) (others : List X) → rest ≡ next ∷ others → FitsPage bytes_of limit (page ++ next ∷ []) → ⊥

-- the answer to a search for all: the commands in order, without the first `offset`, and as many as fit
pub record IsAnswer (offset limit : ℕ) (entries page : List HistoryRecord) : Type 0 where
  pub in_order : List HistoryRecord
  pub all : IsPermutation entries in_order
  pub sorted : IsSortedBy is_shown_before in_order
  pub cut : IsPage hit_bytes limit (drop offset in_order) page
