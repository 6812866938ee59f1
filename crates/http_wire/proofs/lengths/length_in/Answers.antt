use Rattle.std.proofs.Common.{◌∙◌, ℕ, ◌+◌, ◌*◌, sym, ap, arith}
use Rattle.http_wire.proofs.Digits.{value_more, below_more, below_billion, all_more, empty_is_none, long_is_none, other_is_none, digits_are_some}
use Rattle.http_wire.proofs.lengths.length_in.Goals as goal

pub returns-then-is_empty : goal.returns-then-is_empty
returns-then-is_empty c = empty_is_none c.args.text.now (sym c.is_empty.ensures ∙ c.if-is_empty.true)

pub returns-then-text-gt-MOST_LENGTH_DIGITS : goal.returns-then-text-gt-MOST_LENGTH_DIGITS
returns-then-text-gt-MOST_LENGTH_DIGITS c = long_is_none c.args.text.now c.if-text-gt-MOST_LENGTH_DIGITS.true

pub returns-then-not-is_ascii_digit : goal.returns-then-not-is_ascii_digit
returns-then-not-is_ascii_digit c = other_is_none c.args.text.now c.loop-byte.byte-index c.loop-byte-test.true (sym c.is_ascii_digit.ensures.value ∙ c.if-not-is_ascii_digit.true)

pub overflow_mul-length : goal.overflow_mul-length
overflow_mul-length c =
    let small = below_billion c.loop-byte.length c.loop-byte.byte-index c.loop-byte.invariant.1 (omega (arith, c.loop-byte-test.true, c.if-text-gt-MOST_LENGTH_DIGITS.false)) in omega (arith, small)

pub overflow_sub-byte : goal.overflow_sub-byte
overflow_sub-byte c = let digit = c.if-not-is_ascii_digit.ensures.cases in omega (arith, digit)

pub overflow_add-length : goal.overflow_add-length
overflow_add-length c =
    let digit = c.if-not-is_ascii_digit.ensures.cases in
    let is = c.from.ensures in
    let small = below_billion c.loop-byte.length c.loop-byte.byte-index c.loop-byte.invariant.1 (omega (arith, c.loop-byte-test.true, c.if-text-gt-MOST_LENGTH_DIGITS.false)) in omega (arith, small, digit, is)

pub loop-byte-preserved : goal.loop-byte-preserved
loop-byte-preserved c =
    let at = c.loop-byte.byte-index in
    let inside = c.loop-byte-test.true in
    let digit = c.if-not-is_ascii_digit.ensures.cases in
    let is = c.from.ensures in
    let one = c.loop-byte.invariant in (
      ap (λ (d : ℕ). c.loop-byte.length * 10 + d) is ∙ value_more c.args.text.now at c.loop-byte.length inside digit one.0,
      below_more c.loop-byte.length c.from.result at one.1 (omega (arith, digit, is)),
      all_more c.args.text.now at inside (sym c.is_ascii_digit.ensures.value ∙ c.if-not-is_ascii_digit.false) one.2,
    )

pub returns : goal.returns
returns c = digits_are_some c.args.text.now c.loop-byte.byte-index c.loop-byte.length c.loop-byte-test.false (sym c.is_empty.ensures ∙ c.if-is_empty.false) c.if-text-gt-MOST_LENGTH_DIGITS.false c.loop-byte.invariant.0 c.loop-byte.invariant.2
