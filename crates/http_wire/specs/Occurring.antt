-- How often fields of a name stand in a head.
use Rattle.std.specs.Prelude.{◌≡◌, ℕ, ◌<◌, ◌≤◌, List, [], ◌∷◌, length}
use Rattle.http_wire.specs.Fields.{FieldSeen, values_of}
use Rattle.http_wire.specs.declared.fields.Occurs.{Occurs}
use Rattle.http_wire.specs.declared.fields.Occurs.TheVariants.{Never, Once, Often}

abbrev pub IsOccurrence : (head name : List ℕ) → List FieldSeen → Occurs → Type 0
IsOccurrence head name fields Never = values_of name fields ≡ []
IsOccurrence head name fields (Once value) = (values_of name fields ≡ value.now ∷ []) × (length value.now ≤ length head)
IsOccurrence head name fields Often = 1 < length (values_of name fields)
