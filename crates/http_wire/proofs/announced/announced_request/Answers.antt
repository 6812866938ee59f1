use Rattle.std.proofs.Common.{◌∙◌, ℕ, Option, ap, length, map, arith}
use Rattle.httparse.specs.Spans.{header_bytes}
use Rattle.http_wire.specs.Fields.{length_told}
use Rattle.http_wire.specs.Heads.{length_without}
use Rattle.http_wire.proofs.Announcing.{part_short, text_short, announces_request}
use Rattle.http_wire.proofs.announced.announced_request.Goals as goal

pub copied-requires-clause-short : goal.copied-requires-clause-short
copied-requires-clause-short c =
    let small = part_short c.args.head.now c.args.found.now.method.start c.args.found.now.method.end c.requires.method.0 c.requires.method.1 c.requires.short in
    let same = ap length c.of-method.ensures in omega (arith, same, small)

pub copied-requires-2-clause-short : goal.copied-requires-2-clause-short
copied-requires-2-clause-short c =
    let small = part_short c.args.head.now c.args.found.now.path.start c.args.found.now.path.end c.requires.target.0 c.requires.target.1 c.requires.short in
    let same = ap length c.of.ensures in omega (arith, same, small)

pub copied_text-requires : goal.copied_text-requires
copied_text-requires c = text_short c.authorization.result (length c.args.head.now) c.requires.short c.authorization.ensures.text

pub returns : goal.returns
returns c = λ told parts.
    let seen = map (header_bytes c.args.head.now) c.args.fields.now in
    announces_request c.args.head.now c.args.fields.now c.args.found.now told
    (record { method = c.in_ok-copied.field-0; target = c.in_ok-copied-2.field-0; authorization = c.in_ok-copied_text.field-0; close = c.ends_connection.result; body = c.new.result })
    c.told_length.result parts (c.in_ok-copied.ensures ∙ c.of-method.ensures) (c.in_ok-copied-2.ensures ∙ c.of.ensures) (c.in_ok-copied_text.ensures ∙ c.authorization.ensures.value)
    c.ends_connection.ensures c.new.ensures.items
    (c.told_length.ensures ∙ ap (λ (w : Option ℕ). length_told w seen) (c.without_length.ensures ∙ ap length_without c.of-method.ensures))
