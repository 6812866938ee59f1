-- What is seen of a pacer, and what one answer of it does.
use Rattle.std.specs.Prelude.{◌≡◌, ℕ, ◌+◌, ◌≤◌, ◌⊎◌, Bool, true, false, ⊤, Option, Some, None}
use Rattle.definitions.specs.Counts.{last_count}

-- `granted`: how many rounds it has granted.
-- `left`: how many it will still grant, None where it doesn't tell.
pub record PacerSeen : Type 0 where
  pub granted : ℕ
  pub left : Option ℕ

-- a pacer that tells, and has granted none of these rounds yet
abbrev pub pacer_of : ℕ → PacerSeen
pacer_of rounds = record { granted = 0; left = Some rounds }

-- one fewer is left; None claims nothing
abbrev pub Lowers : Option ℕ → Option ℕ → Type 0
Lowers None new = ⊤
Lowers (Some old) new = (rest : ℕ) × (old ≡ rest + 1) × (new ≡ Some rest)

-- none is left; None claims nothing
abbrev pub NoneLeft : Option ℕ → Type 0
NoneLeft None = ⊤
NoneLeft (Some left) = left ≡ 0

-- A round was granted, or none was: then nothing changed, and none is left, or the count stands at its last value.
abbrev pub Grants : PacerSeen → PacerSeen → Bool → Type 0
Grants old new true = (new.granted ≡ old.granted + 1) × (new.granted ≤ last_count) × Lowers old.left new.left
Grants old new false = (new ≡ old) × (NoneLeft old.left ⊎ (old.granted ≡ last_count))
