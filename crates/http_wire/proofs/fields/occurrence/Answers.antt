use Rattle.std.proofs.Common.{◌∙◌, sym, ap, subst, map, List, length, get_or, arith}
use Rattle.std.proofs.lemmas.List.{take_all}
use Rattle.httparse.proofs.RunLemmas.{length-slice_range}
use Rattle.httparse.specs.declared.spans.HeaderSpan.{HeaderSpan}
use Rattle.httparse.specs.Spans.{header_bytes}
use Rattle.http_wire.specs.Occurring.{IsOccurrence}
use Rattle.http_wire.proofs.Named.{no_span, occurs_first, occurs_again, occurs_other}
use Rattle.http_wire.proofs.fields.occurrence.Goals as goal
use Rattle.http_wire.proofs.fields.occurrence.Goals.{then-is_named+in-Never, then-is_named+in_default, else-is_named}

pub is_named-requires : goal.is_named-requires
is_named-requires c = c.requires c.loop-field.field-index no_span c.loop-field-test.true

pub of-requires-clause-ordered : goal.of-requires-clause-ordered
of-requires-clause-ordered c = (c.requires c.loop-field.field-index no_span c.loop-field-test.true).1.0

pub of-requires-clause-in_range : goal.of-requires-clause-in_range
of-requires-clause-in_range c = (c.requires c.loop-field.field-index no_span c.loop-field-test.true).1.1

pub loop-field-preserved : goal.loop-field-preserved
loop-field-preserved c =
    let at = c.loop-field.field-index in
    let inside = c.loop-field-test.true in
    elim c.if-is_named.branch [
      | then-is_named+in-Never w ↦
          let within = (c.requires at no_span inside).1 in
          let size = ap length w.of.ensures ∙ length-slice_range c.args.head.now (get_or c.args.fields.now at no_span).value.start (get_or c.args.fields.now at no_span).value.end within.0 within.1 in
          let last = within.1 in
          occurs_first c.args.head.now c.args.name.now c.args.fields.now at no_span inside c.loop-field.found c.if-is_named.found w.of.result (sym c.is_named.ensures ∙ w.if-is_named.true) c.loop-field.invariant w.in-Never.is w.found-is w.of.ensures
          (omega (arith, size, last))
      | then-is_named+in_default w ↦
          occurs_again c.args.head.now c.args.name.now c.args.fields.now at no_span inside c.loop-field.found c.if-is_named.found (sym c.is_named.ensures ∙ w.if-is_named.true) c.loop-field.invariant w.in_default.not-Never w.found-is
      | else-is_named w ↦
          occurs_other c.args.head.now c.args.name.now c.args.fields.now at no_span inside c.loop-field.found c.if-is_named.found (sym c.is_named.ensures ∙ w.if-is_named.false) c.loop-field.invariant w.found-is
    ]

pub returns : goal.returns
returns c =
    subst (λ (l : List HeaderSpan). IsOccurrence c.args.head.now c.args.name.now (map (header_bytes c.args.head.now) l) c.loop-field.found)
    (take_all c.loop-field.field-index c.args.fields.now c.loop-field-test.false) c.loop-field.invariant
