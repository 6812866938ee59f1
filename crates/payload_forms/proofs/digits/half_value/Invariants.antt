use Rattle.std.specs.Prelude.{◌≡◌, ◌<◌, ◌^◌, true, take}
use Rattle.std.specs.List.{list_all}
use Rattle.definitions.specs.Reading.{is_lower_hex, id_value}
use Rattle.payload_forms.proofs.digits.half_value.Given as goal

abbrev pub invariant-loop-digit : goal.invariant-loop-digit
invariant-loop-digit l = record {
  below : l.value < 16 ^ l.digit-index;
  all_digits : list_all is_lower_hex (take l.digit-index l.digits) ≡ true;
  value_is : l.value ≡ id_value (take l.digit-index l.digits);
}
