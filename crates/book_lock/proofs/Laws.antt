-- A turn of the lock is a turn of its pass.
use Rattle.std.proofs.Common.{◌≡◌, ap, subst}
use Rattle.std.specs.Prelude.{IfSome}
use Rattle.session_rules.specs.Passes.{Pass}
use Rattle.session_rules.specs.Books.{Book, PassTakes, PassGives, PassTurn}
use Rattle.session_rules.proofs.Books.{taken_and_given}
use Rattle.book_lock.specs.LockPasses.{LockPass, with_turn}

-- what was taken and given is a turn of the pass
pub turn_of_pass : (old taken : LockPass) (found left : Book) (after : Pass) → PassTakes old.pass found taken.pass → taken ≡ with_turn old found → IfSome taken.out (λ book. PassGives taken.pass book left after) → PassTurn old.pass found left after
turn_of_pass old taken found left after takes is gives =
    taken_and_given old.pass taken.pass found left after takes (subst (λ out. IfSome out (λ book. PassGives taken.pass book left after)) (ap (λ (p : LockPass). p.out) is) gives)
