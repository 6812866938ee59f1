-- What is told of commands: of one that began, and of one that ended.
use Rattle.std.specs.Prelude.{ℕ, ℤ, List, Option, None, ◌==◌}
use Rattle.std.specs.List.{IsDistinct}

-- a command that was begun, at a time in nanoseconds since 1970
pub record StartedRecord : Type 0 where
  pub id : ℕ
  pub timestamp : ℕ
  pub command : List ℕ
  pub cwd : List ℕ
  pub session : List ℕ
  pub hostname : List ℕ

-- a command that ended: its duration in nanoseconds and its exit status beside what its start told
pub record HistoryRecord : Type 0 where
  pub id : ℕ
  pub timestamp : ℕ
  pub duration : ℤ
  pub exit : ℤ
  pub command : List ℕ
  pub cwd : List ℕ
  pub session : List ℕ
  pub hostname : List ℕ
  pub deleted_at : Option ℕ
  -- whoever ran it, where that is told
  pub author : Option (List ℕ)

-- no two of them have one id
abbrev pub HaveDistinctIds : {X : Type 0} → (X → ℕ) → List X → Type 0
HaveDistinctIds id_of xs = IsDistinct (λ a b. id_of a == id_of b) xs

-- what is kept of a command when it ends: its duration, its exit status and its author beside what its start told
abbrev pub finished : StartedRecord → ℤ → ℤ → Option (List ℕ) → HistoryRecord
finished s duration exit author =
    record { id = s.id; timestamp = s.timestamp; duration = duration; exit = exit; command = s.command; cwd = s.cwd; session = s.session; hostname = s.hostname; deleted_at = None; author = author }
