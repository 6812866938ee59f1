use Rattle.std.proofs.Common.{ℕ, List, Option, Bor, arith}
use Rattle.msgpack_fields.specs.Reading.{SpellsNilOr, SpellsNumber, number_at, nil_or_at}
use Rattle.msgpack_fields.proofs.Fronts.{found_is_spelled, none_is_spelled}
use Rattle.msgpack_fields.proofs.Nils.{nil_or_numbers_read}
use Rattle.msgpack_fields.proofs.items.nil_or_u64_of.Goals as goal

pub returns-clause-spelled : goal.returns-clause-spelled
returns-clause-spelled c =
    found_is_spelled (Option ℕ) (Option ℕ × Bor (List ℕ)) (nil_or_at number_at) (SpellsNilOr SpellsNumber) nil_or_numbers_read (λ x. (x.0, x.1.now)) c.args.bytes.now c.leading_nil_or_u64.result (λ i. omega (arith, c.type_inv.bytes i))
    c.leading_nil_or_u64.ensures.value

pub returns-clause-none : goal.returns-clause-none
returns-clause-none c =
    none_is_spelled (Option ℕ) (Option ℕ × Bor (List ℕ)) (nil_or_at number_at) (SpellsNilOr SpellsNumber) nil_or_numbers_read (λ x. (x.0, x.1.now)) c.args.bytes.now c.leading_nil_or_u64.result c.leading_nil_or_u64.ensures.value
