use Rattle.std.proofs.Common.{◌≡◌, ◌∙◌, sym, subst, map, List, [], false}
use Rattle.std.proofs.lemmas.List.{take_all}
use Rattle.httparse.specs.declared.spans.HeaderSpan.{HeaderSpan}
use Rattle.httparse.specs.Spans.{header_bytes}
use Rattle.http_wire.specs.Fields.{says_close}
use Rattle.http_wire.proofs.Named.{no_span, close_found, no_close_more}
use Rattle.http_wire.proofs.fields.says_close.Goals as goal

pub closes-requires : goal.closes-requires
closes-requires c = c.requires c.loop-field.field-index no_span c.loop-field-test.true

pub returns-then-closes : goal.returns-then-closes
returns-then-closes c = sym (close_found c.args.head.now [] c.args.fields.now c.loop-field.field-index no_span c.loop-field-test.true (sym c.closes.ensures ∙ c.if-closes.true))

pub loop-field-preserved : goal.loop-field-preserved
loop-field-preserved c = no_close_more c.args.head.now [] c.args.fields.now c.loop-field.field-index no_span c.loop-field-test.true (sym c.closes.ensures ∙ c.if-closes.false) c.loop-field.invariant

pub returns : goal.returns
returns c =
    sym (subst (λ (l : List HeaderSpan). says_close (map (header_bytes c.args.head.now) l) ≡ false) (take_all c.loop-field.field-index c.args.fields.now c.loop-field-test.false) c.loop-field.invariant)
