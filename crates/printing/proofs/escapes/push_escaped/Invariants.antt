use Rattle.std.proofs.Common.{◌≡◌, ◌++◌, take}
use Rattle.printing.specs.Lines.{escaped}
use Rattle.printing.proofs.escapes.push_escaped.Given as goal

abbrev pub invariant-loop-byte : goal.invariant-loop-byte
invariant-loop-byte l = l.out.items ≡ l.initial.out.items ++ escaped (take l.byte-index l.text)
