-- The hosts of a status, chain by chain.
use Rattle.std.proofs.Common.{◌≡◌, ◌++◌, List}
use Rattle.json.specs.Token.{Token}
use Rattle.json.specs.Written.{Written}
use Rattle.record_json.specs.Writing.{Adds}

-- what was written so far, and what is owed for the rest, is all of it
pub record Owes (old now : Written) (rest all : List Token) : Type 0 where
  pub written : List Token
  pub adds : Adds old now written
  pub owed : written ++ rest ≡ all
