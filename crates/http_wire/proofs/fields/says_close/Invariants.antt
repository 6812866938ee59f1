use Rattle.std.proofs.Common.{◌≡◌, false, map, take}
use Rattle.httparse.specs.Spans.{header_bytes}
use Rattle.http_wire.specs.Fields.{says_close}
use Rattle.http_wire.proofs.fields.says_close.Given as goal

abbrev pub invariant-loop-field : goal.invariant-loop-field
invariant-loop-field l = says_close (map (header_bytes l.head) (take l.field-index l.fields)) ≡ false
