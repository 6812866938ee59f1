use Rattle.std.proofs.Common.{◌∙◌, sym, map, codes}
use Rattle.std.proofs.lemmas.Str.{IsUtf8-from_is_utf8}
use Rattle.httparse.specs.Spans.{header_bytes}
use Rattle.http_wire.proofs.Named.{no_only}
use Rattle.http_wire.proofs.fields.authorization.Goals as goal

pub returns-in_default-clause-value : goal.returns-in_default-clause-value
returns-in_default-clause-value c = no_only c.args.head.now (codes "authorization") (map (header_bytes c.args.head.now) c.args.fields.now) c.occurrence.result c.occurrence.ensures c.in_default.not-Once

pub returns-then-is_text-clause-text : goal.returns-then-is_text-clause-text
returns-then-is_text-clause-text c = (IsUtf8-from_is_utf8 c.in-Once.value.now (sym c.is_text.ensures ∙ c.if-is_text.true), c.in-Once.ensures.1)
