-- A run of bytes, and how many bytes it has memory for.
use Rattle.std.specs.Prelude.{ℕ, List}

pub record Buffer : Type 0 where
  pub items : List ℕ
  pub reserved : ℕ
