-- What a call adds to a text that is being written.
use Rattle.std.specs.Prelude.{◌≡◌, List, ◌++◌}
use Rattle.json.specs.Token.{Token}
use Rattle.json.specs.Written.{Written}

-- these tokens are added, and what stood before the text stays
pub record Adds (old new : Written) (more : List Token) : Type 0 where
  pub tokens : new.tokens ≡ old.tokens ++ more
  pub before : new.before ≡ old.before
