-- How one list begins another.
use Rattle.std.specs.Prelude.{◌≡◌, List, length, take}

module _ {A : Type 0} where
  -- the list is what stands at the beginning of the other one
  abbrev pub IsPrefix : List A → List A → Type 0
  IsPrefix first whole = first ≡ take (length first) whole
