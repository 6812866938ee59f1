use Rattle.std.proofs.Common.{ap, ◌∙◌}
use Rattle.std.specs.Int.{w128, from_be_bytes}
use Rattle.definitions.specs.Ids.{id_text}
use Rattle.record_model.proofs.Reading.{digits_decode, never_fails, value_prints}
use Rattle.record_model.proofs.ids.value_of.Goals as goal

pub unreachable-requires : goal.unreachable-requires
unreachable-requires c = never_fails c.args.digits.now c.decode_to_slice.new.out c.decode_to_slice.result c.in-Err.field-0 c.requires c.decode_to_slice.ensures.value c.in-Err.is

pub returns : goal.returns
returns c =
    let read = digits_decode c.args.digits.now c.decode_to_slice.new.out c.decode_to_slice.result c.requires c.decode_to_slice.ensures.value in
    ap id_text (c.from_be_bytes.ensures ∙ ap (from_be_bytes w128) read.1) ∙ value_prints c.args.digits.now c.requires
