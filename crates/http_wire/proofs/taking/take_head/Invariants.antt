use Rattle.std.proofs.Common.{◌-◌, length}
use Rattle.http_wire.specs.Taken.{HoldsMore}
use Rattle.http_wire.proofs.taking.take_head.Given as goal

abbrev pub invariant-reads : goal.invariant-reads
invariant-reads g l = HoldsMore (g.S.Source.source l.initial.source) (g.S.Source.source l.source) l.initial.held.items l.held.items

-- a front that isn't full has fewer bytes
abbrev pub decreases-reads : goal.decreases-reads
decreases-reads g l = 65536 - length l.held.items
