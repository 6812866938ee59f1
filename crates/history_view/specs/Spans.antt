-- Between which times the commands of a text began.
use Rattle.std.specs.Prelude.{◌≡◌, ℕ, ◌≤◌, ◌-◌, ◌^◌, List, Some, Bool, ◌&&◌, min, max, leb, length, get_or}
use Rattle.history_view.specs.declared.rows.Creation.{Creation}
use Rattle.history_view.specs.declared.rows.Held.{Held}
use Rattle.history_view.specs.declared.spans.Span.{Span}
use Rattle.history_view.specs.declared.walk.Walked.{Walked}
use Rattle.history_view.specs.Places.{held_in}
use Rattle.history_view.specs.ViewState.{ViewState, IsSound}

-- no time is in it
abbrev pub no_times : Span
no_times = record { earliest = 2 ^ 64 - 1; latest = 0 }

-- from the earlier beginning to the later end
abbrev pub joined : Span → Span → Span
joined a b = record { earliest = min a.earliest b.earliest; latest = max a.latest b.latest }

abbrev pub IsWithin : Span → ℕ → Type 0
IsWithin span time = (span.earliest ≤ time) × (time ≤ span.latest)

-- whether what was walked to began within the span
abbrev pub began_within : Span → Walked → Bool
began_within span w = leb span.earliest w.timestamp && leb w.timestamp span.latest

-- the span of a text's number
abbrev pub span_of : List Span → ℕ → Span
span_of spans n = get_or spans n no_times

-- each creation that is kept began within the span of its command
abbrev pub AreSpanned : List Span → List (ℕ × Held) → Type 0
AreSpanned spans ids = (id : ℕ) (c : Creation) → (held_in ids id).first ≡ Some c → IsWithin (span_of spans c.command) c.timestamp

-- what is true of every view and its spans; each text has one
pub record IsKept (s : ViewState) (spans : List Span) : Type 0 where
  pub sound : IsSound s
  pub spanned : AreSpanned spans s.ids
  pub reach : length s.texts ≤ length spans
