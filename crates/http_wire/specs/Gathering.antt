-- Bytes that are handed to a sink, some of them held back to be written with later ones.
use Rattle.std.specs.Prelude.{◌≡◌, ℕ, List, ◌++◌, Result, Ok, Err}
use Rattle.at_edge.specs.Writing.{SinkSeen, Holds, Stopped}

-- the sink took what was held back before, and of `bytes` what isn't held back now
pub record Handed (old new : SinkSeen) (kept held bytes : List ℕ) : Type 0 where
  pub taken : List ℕ
  pub holds : Holds old new taken
  pub owed : taken ++ held ≡ kept ++ bytes

-- handed, or the sink failed before it had taken all of it
abbrev pub Hands : {T E : Type 0} → SinkSeen → SinkSeen → Result T E → (kept held bytes : List ℕ) → Type 0
Hands old new (Ok _) kept held bytes = Handed old new kept held bytes
Hands old new (Err _) kept held bytes = (n : ℕ) × Stopped old new (kept ++ bytes) n
