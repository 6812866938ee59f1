use Rattle.std.proofs.Common.{◌≡◌, ◌<◌, take}
use Rattle.http_wire.specs.Fronts.{lines_of}
use Rattle.http_wire.proofs.fronts.find_front.Given as goal

abbrev pub invariant-loop-index : goal.invariant-loop-index
invariant-loop-index l = (l.lines < 102) × (l.lines ≡ lines_of (take l.index l.most))
