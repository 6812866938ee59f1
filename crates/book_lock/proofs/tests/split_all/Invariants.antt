use Rattle.book_lock.specs.LockPasses.{IsIdleAt}
use Rattle.book_lock.proofs.tests.split_all.Given as goal

abbrev pub invariant-loop-splits : goal.invariant-loop-splits
invariant-loop-splits g l = IsIdleAt l.lock l.pass
