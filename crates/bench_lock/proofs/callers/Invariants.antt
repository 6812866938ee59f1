use Rattle.book_lock.specs.LockPasses.{IsIdleAt}
use Rattle.bench_lock.proofs.callers.Given as goal

abbrev pub invariant-loop-thread : goal.invariant-loop-thread
invariant-loop-thread g l = IsIdleAt l.lock l.first
