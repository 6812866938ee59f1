-- What a query looks for, and the texts that it is compared with.
use Rattle.std.specs.Prelude.{List, ℕ, Bool, eqb}
use Rattle.std.specs.List.{starts_with}
use Rattle.definitions.specs.Calls.{SearchMode, by_prefix, by_substring}
use Rattle.definitions.specs.Search.{stands_in}

pub record Wanted : Type 0 where
  pub mode : SearchMode
  pub text : List ℕ

-- the text begins this one, or stands in it
abbrev pub matched : SearchMode → (text compared : List ℕ) → Bool
matched by_prefix text compared = starts_with eqb compared text
matched by_substring text compared = stands_in text compared
