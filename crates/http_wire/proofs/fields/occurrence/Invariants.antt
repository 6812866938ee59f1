use Rattle.std.proofs.Common.{map, take}
use Rattle.httparse.specs.Spans.{header_bytes}
use Rattle.http_wire.specs.Occurring.{IsOccurrence}
use Rattle.http_wire.proofs.fields.occurrence.Given as goal

abbrev pub invariant-loop-field : goal.invariant-loop-field
invariant-loop-field l = IsOccurrence l.head l.name (map (header_bytes l.head) (take l.field-index l.fields)) l.found
