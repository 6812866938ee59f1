-- What contracts see of a reader, what a read takes from its bytes, and items that may be nil.
use Rattle.std.specs.Prelude.{◌≡◌, ℕ, ℤ, pos, negsuc, List, [], ◌∷◌, ◌++◌, Option, Some, None, ◌==◌, if◌then◌else◌}
use Rattle.definitions.specs.Spelling.{SpellsInteger}
use Rattle.definitions.specs.Reading.{◌>>=◌, integer_at}
use Rattle.payload_rules.specs.Items.{SpellsBin, SpellsNil}

-- the bytes that are left, and the number of those that were read
pub record Reading : Type 0 where
  pub rest : List ℕ
  pub place : ℕ

-- the bytes are a front that is spelled so, and the rest
abbrev pub BeginsWith : (List ℕ → Type 0) → List ℕ → List ℕ → Type 0
BeginsWith Spelled bytes rest = (front : List ℕ) × Spelled front × (bytes ≡ front ++ rest)

-- the bytes spell some bin
abbrev pub IsBin : List ℕ → Type 0
IsBin bytes = (held : List ℕ) × SpellsBin held bytes

-- ---- nil, or something

-- the bytes spell nil, or the value where there is one
abbrev pub SpellsNilOr : {A : Type 0} → (A → List ℕ → Type 0) → Option A → List ℕ → Type 0
SpellsNilOr Spells None bytes = SpellsNil bytes
SpellsNilOr Spells (Some v) bytes = Spells v bytes

-- the bytes spell a number that isn't negative
abbrev pub SpellsNumber : ℕ → List ℕ → Type 0
SpellsNumber n bytes = SpellsInteger (pos n) bytes

-- the bytes spell nil, or some such value
abbrev pub IsNilOr : {A : Type 0} → (A → List ℕ → Type 0) → List ℕ → Type 0
IsNilOr {A} Spells bytes = (v : Option A) × SpellsNilOr Spells v bytes

-- ---- reading from left to right, as code does: nothing rests on these words alone

abbrev pub not_negative : ℤ × List ℕ → Option (ℕ × List ℕ)
not_negative (pos n, rest) = Some (n, rest)
not_negative (negsuc n, rest) = None

unfoldable pub number_at : List ℕ → Option (ℕ × List ℕ)
number_at bytes = integer_at bytes >>= not_negative

-- a value that was read, where nil could have stood
abbrev pub or_value : {A : Type 0} → Option (A × List ℕ) → Option (Option A × List ℕ)
or_value None = None
or_value (Some x) = Some (Some x.0, x.1)

unfoldable pub nil_or_at : {A : Type 0} → (List ℕ → Option (A × List ℕ)) → List ℕ → Option (Option A × List ℕ)
nil_or_at read [] = None
nil_or_at read (b ∷ rest) = if b == 0xc0 then Some (None, rest) else or_value (read (b ∷ rest))
