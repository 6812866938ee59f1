-- The bytes of a body.
use Rattle.std.specs.Prelude.{ℕ, List}
use Rattle.http_wire.specs.declared.body.Kept.{Kept}
use Rattle.http_wire.specs.declared.body.Kept.TheVariants.{Short, Long}

abbrev pub bytes_of : Kept → List ℕ
bytes_of (Short bytes) = bytes.items
bytes_of (Long bytes) = bytes.items
