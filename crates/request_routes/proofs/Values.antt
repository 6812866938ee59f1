-- The value that was found so far under a name.
use Rattle.std.proofs.Common.{ℕ, List, [], ◌∷◌, Option, Some, None}

abbrev pub held : Option (List ℕ) → List (List ℕ)
held None = []
held (Some value) = value ∷ []
