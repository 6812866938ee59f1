use Rattle.std.proofs.Common.{ℕ, ℤ, List, Bor, arith}
use Rattle.definitions.specs.Spelling.{SpellsInteger, IsSpellable}
use Rattle.definitions.specs.Reading.{integer_at}
use Rattle.definitions.proofs.Spelling.{integers_read, spelled_integer_fits}
use Rattle.msgpack_fields.proofs.Fronts.{found_is_spelled, none_is_spelled, spelled_tells}
use Rattle.msgpack_fields.proofs.items.integer_of.Goals as goal

pub returns-clause-spelled : goal.returns-clause-spelled
returns-clause-spelled c =
    found_is_spelled ℤ (ℤ × Bor (List ℕ)) integer_at SpellsInteger integers_read (λ x. (x.0, x.1.now)) c.args.bytes.now c.leading_integer.result (λ i. omega (arith, c.type_inv.bytes i)) c.leading_integer.ensures.value

pub returns-clause-none : goal.returns-clause-none
returns-clause-none c =
    none_is_spelled ℤ (ℤ × Bor (List ℕ)) integer_at SpellsInteger integers_read (λ x. (x.0, x.1.now)) c.args.bytes.now c.leading_integer.result c.leading_integer.ensures.value

pub returns-clause-range : goal.returns-clause-range
returns-clause-range c =
    spelled_tells c.leading_integer.result (λ x. SpellsInteger x.0) c.args.bytes.now (λ x. x.1.now) (λ x. IsSpellable x.0) (λ x front s. spelled_integer_fits x.0 front s) (returns-clause-spelled c)
