use Rattle.std.proofs.Common.{◌≡◌, length}
use Rattle.history_view.specs.Walk.{walked_in}
use Rattle.history_view.proofs.walk.NewestIterator.next.Given as goal

abbrev pub invariant-loop-key : goal.invariant-loop-key
invariant-loop-key l = walked_in l.self.inner ≡ walked_in l.initial.self.inner

abbrev pub decreases-loop-key : goal.decreases-loop-key
decreases-loop-key l = length l.self.inner
