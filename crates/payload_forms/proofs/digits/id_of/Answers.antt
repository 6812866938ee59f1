use Rattle.std.proofs.Common.{◌≡◌, ◌+◌, ◌*◌, ◌^◌, refl, arith}
use Rattle.definitions.specs.Reading.{id_value}
use Rattle.payload_forms.proofs.DigitLaws.{id_halves}
use Rattle.payload_forms.proofs.digits.id_of.Goals as goal

pub returns : goal.returns
returns c =
    let high = c.in_ok-high.ensures in
    let low = c.in_ok-low.ensures in
    let read = id_halves c.args.text.now c.split_at.result.0.now c.split_at.result.1.now c.if-text.false c.split_at.ensures.front c.split_at.ensures.back high.0 low.0 in
    let value : c.from.result * 2 ^ 64 + c.from-2.result ≡ id_value c.args.text.now = omega (arith, c.from.ensures, c.from-2.ensures, high.1, low.1, read.1) in
    rw (read.0, ← value) refl
