use Rattle.book_lock.specs.LockPasses.{IsIdleAt}
use Rattle.book_lock.proofs.tests.many_turns.Given as goal

abbrev pub invariant-loop-turn : goal.invariant-loop-turn
invariant-loop-turn g l = IsIdleAt l.lock l.pass
