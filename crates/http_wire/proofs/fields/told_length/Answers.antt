use Rattle.std.proofs.Common.{◌∙◌, sym, ap, map, codes}
use Rattle.httparse.specs.Spans.{header_bytes}
use Rattle.http_wire.specs.Fields.{values_of, only_length}
use Rattle.http_wire.proofs.Named.{no_coding, several_lengths, coding}
use Rattle.http_wire.proofs.fields.told_length.Goals as goal

pub returns-in-Never-occurrence : goal.returns-in-Never-occurrence
returns-in-Never-occurrence c =
    let fields = map (header_bytes c.args.head.now) c.args.fields.now in
    sym (no_coding c.args.without fields c.in-Never.ensures ∙ ap (only_length c.args.without) c.in-Never-occurrence.ensures)

pub returns-in-Once : goal.returns-in-Once
returns-in-Once c =
    let fields = map (header_bytes c.args.head.now) c.args.fields.now in
    c.length_in.ensures ∙ sym (no_coding c.args.without fields c.in-Never.ensures ∙ ap (only_length c.args.without) c.in-Once.ensures.0)

pub returns-in-Often : goal.returns-in-Often
returns-in-Often c =
    let fields = map (header_bytes c.args.head.now) c.args.fields.now in
    sym (no_coding c.args.without fields c.in-Never.ensures ∙ several_lengths c.args.without (values_of (codes "content-length") fields) c.in-Often.ensures)

pub returns-in_default : goal.returns-in_default
returns-in_default c = sym (coding c.args.head.now c.args.without (map (header_bytes c.args.head.now) c.args.fields.now) c.occurrence.result c.occurrence.ensures c.in_default.not-Never)
