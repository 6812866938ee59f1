use Rattle.std.proofs.Common.{◌≡◌, ◌<◌, get_or, refl, ◌∙◌, arith}
use Rattle.std.proofs.lemmas.List.Folds.{list_all_more}
use Rattle.std.specs.Char.{digit_value}
use Rattle.definitions.specs.Reading.{is_lower_hex}
use Rattle.payload_forms.proofs.DigitLaws.{id_value-none, id_value-next, next_below, next_fits}
use Rattle.payload_forms.proofs.digits.half_value.Goals as goal

pub loop-digit-init : goal.loop-digit-init
loop-digit-init c = record { below = omega arith; all_digits = refl; value_is = id_value-none }

pub overflow_mul-value : goal.overflow_mul-value
overflow_mul-value c =
    let inside : c.loop-digit.digit-index < 16 = omega arith in
    let fits = next_fits c.loop-digit.value 0 c.loop-digit.digit-index c.loop-digit.invariant.below (omega arith) inside in
    omega arith

pub overflow_add-value : goal.overflow_add-value
overflow_add-value c =
    let inside : c.loop-digit.digit-index < 16 = omega arith in
    let told = c.in_ok-digit_value.ensures.below in
    let small : c.from.result < 16 = omega (arith, c.from.ensures, told) in
    let fits = next_fits c.loop-digit.value c.from.result c.loop-digit.digit-index c.loop-digit.invariant.below small inside in
    omega arith

pub loop-digit-preserved : goal.loop-digit-preserved
loop-digit-preserved c =
    let told = c.in_ok-digit_value.ensures in
    let below : c.in_ok-digit_value.field-0 < 16 = told.below in
    let small : c.from.result < 16 = omega (arith, c.from.ensures, below) in
    let counts : c.from.result ≡ digit_value (get_or c.args.digits.now c.loop-digit.digit-index 0) = c.from.ensures ∙ told.value.1 in
    record {
      below = next_below c.loop-digit.value c.from.result c.loop-digit.digit-index c.loop-digit.invariant.below small;
      all_digits = rw (list_all_more is_lower_hex c.args.digits.now c.loop-digit.digit-index 0 c.loop-digit-test.true, c.loop-digit.invariant.all_digits, told.value.0) refl;
      value_is = rw (id_value-next c.args.digits.now c.loop-digit.digit-index c.loop-digit-test.true, ← c.loop-digit.invariant.value_is, counts) refl;
    }
