use Rattle.std.proofs.Common.{ℕ, List, Bor, arith}
use Rattle.definitions.specs.Spelling.{SpellsArray}
use Rattle.definitions.specs.Reading.{array_at}
use Rattle.definitions.proofs.Spelling.{arrays_read}
use Rattle.msgpack_fields.proofs.Fronts.{found_is_spelled, none_is_spelled}
use Rattle.msgpack_fields.proofs.items.array_of.Goals as goal

pub returns-clause-spelled : goal.returns-clause-spelled
returns-clause-spelled c =
    found_is_spelled ℕ (ℕ × Bor (List ℕ)) array_at SpellsArray arrays_read (λ x. (x.0, x.1.now)) c.args.bytes.now c.leading_array.result (λ i. omega (arith, c.type_inv.bytes i)) c.leading_array.ensures.value

pub returns-clause-none : goal.returns-clause-none
returns-clause-none c =
    none_is_spelled ℕ (ℕ × Bor (List ℕ)) array_at SpellsArray arrays_read (λ x. (x.0, x.1.now)) c.args.bytes.now c.leading_array.result c.leading_array.ensures.value
