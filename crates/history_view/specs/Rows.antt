-- What the numbers that are kept of an id mean.
use Rattle.std.specs.Prelude.{ℕ, List, [], Option, None, Some, IsSome, false, cond, ◌||◌, slice_get}
use Rattle.std.specs.Option.{unwrap_or, option_map, is_some}
use Rattle.std.specs.Ordering.{nat_cmp, ordering_then, is_lt}
use Rattle.definitions.specs.Journal.{HistoryRecord}
use Rattle.view_rules.specs.Standing.{Created, Standing}
use Rattle.history_view.specs.declared.rows.Creation.{Creation}
use Rattle.history_view.specs.declared.rows.TextNumbers.{TextNumbers}
use Rattle.history_view.specs.declared.rows.Held.{Held}

-- the text of a number; empty where it has none
abbrev pub text_at : List (List ℕ) → ℕ → List ℕ
text_at texts n = unwrap_or (slice_get texts n) []

-- the author's text, where there is one
abbrev pub author_of : List (List ℕ) → Option ℕ → Option (List ℕ)
author_of texts author = option_map (text_at texts) author

abbrev pub command_of : List (List ℕ) → ℕ → Creation → HistoryRecord
command_of texts id c =
    record { id = id; timestamp = c.timestamp; duration = c.duration; exit = c.exit; command = text_at texts c.command; cwd = text_at texts c.cwd; session = text_at texts c.session; hostname = text_at texts c.hostname; deleted_at = c.deleted_at; author = author_of texts c.author }

abbrev pub created_of : List (List ℕ) → ℕ → Creation → Created
created_of texts id c = record { host = c.host; idx = c.idx; command = command_of texts id c }

abbrev pub standing_of : List (List ℕ) → ℕ → Held → Standing
standing_of texts id held = record { dead = held.dead; first = option_map (created_of texts id) held.first }

abbrev pub HasAuthor : List (List ℕ) → Option ℕ → Type 0
HasAuthor texts None = Unit {0}
HasAuthor texts (Some n) = IsSome (slice_get texts n)

-- all its numbers have texts
pub record HasTexts (texts : List (List ℕ)) (c : Creation) : Type 0 where
  pub command : IsSome (slice_get texts c.command)
  pub cwd : IsSome (slice_get texts c.cwd)
  pub session : IsSome (slice_get texts c.session)
  pub hostname : IsSome (slice_get texts c.hostname)
  pub author : HasAuthor texts c.author

abbrev pub nothing_held : Held
nothing_held = record { dead = false; first = None }

abbrev pub earlier_row : Creation → Option Creation → Creation
earlier_row c None = c
earlier_row c (Some d) = cond (is_lt (ordering_then (nat_cmp c.host d.host) (nat_cmp c.idx d.idx))) c d

abbrev pub held_after : Creation → Held → Held
held_after c held = record { dead = held.dead || is_some c.deleted_at; first = Some (earlier_row c held.first) }

-- the creation that is shown
abbrev pub shown_row : Held → Option Creation
shown_row held = cond held.dead None held.first

abbrev pub numbers_of : Creation → TextNumbers
numbers_of c = record { command = c.command; cwd = c.cwd; session = c.session; hostname = c.hostname }
