use Rattle.std.proofs.Common.{ℕ, List, Bor, arith}
use Rattle.payload_rules.specs.Items.{SpellsBin}
use Rattle.payload_rules.specs.Reading.{bin_at}
use Rattle.payload_rules.proofs.Items.{bins_read}
use Rattle.msgpack_fields.proofs.Fronts.{found_is_spelled, none_is_spelled}
use Rattle.msgpack_fields.proofs.items.bin_of.Goals as goal

pub returns-clause-spelled : goal.returns-clause-spelled
returns-clause-spelled c =
    found_is_spelled (List ℕ) (Bor (List ℕ) × Bor (List ℕ)) bin_at SpellsBin bins_read (λ x. (x.0.now, x.1.now)) c.args.bytes.now c.leading_bin.result (λ i. omega (arith, c.type_inv.bytes i)) c.leading_bin.ensures.value

pub returns-clause-none : goal.returns-clause-none
returns-clause-none c =
    none_is_spelled (List ℕ) (Bor (List ℕ) × Bor (List ℕ)) bin_at SpellsBin bins_read (λ x. (x.0.now, x.1.now)) c.args.bytes.now c.leading_bin.result c.leading_bin.ensures.value
