use Rattle.std.proofs.Common.{ℕ, List, Some, ap, ◌∙◌}
use Rattle.std.specs.Int.{w128, from_be_bytes}
use Rattle.std.specs.Option.{option_map}
use Rattle.uuid.specs.Text.{parsed}
use Rattle.record_model.proofs.Reading.{none_parsed, hyphenated_reads}
use Rattle.record_model.proofs.ids.read_record_id.Goals as goal

pub returns-in-Ok-clause-printed : goal.returns-in-Ok-clause-printed
returns-in-Ok-clause-printed c id fits printed =
    ap Some c.as_u128.ensures ∙ ap (option_map (from_be_bytes w128)) (c.in-Ok.ensures.bytes ∙ ap parsed printed) ∙ hyphenated_reads id fits

pub returns-in-Err-clause-value : goal.returns-in-Err-clause-value
returns-in-Err-clause-value c = none_parsed c.try_parse_ascii.result c.in-Err.field-0 (parsed c.args.text.now) (from_be_bytes w128) c.in-Err.is c.try_parse_ascii.ensures.ok

pub returns-in-Err-clause-printed : goal.returns-in-Err-clause-printed
returns-in-Err-clause-printed c id fits printed =
    none_parsed c.try_parse_ascii.result c.in-Err.field-0 (parsed c.args.text.now) (from_be_bytes w128) c.in-Err.is c.try_parse_ascii.ensures.ok
    ∙ ap (λ (t : List ℕ). option_map (from_be_bytes w128) (parsed t)) printed ∙ hyphenated_reads id fits
