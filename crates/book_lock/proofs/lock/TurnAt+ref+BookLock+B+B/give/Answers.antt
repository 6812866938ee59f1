use Rattle.book_lock.proofs.LockPasses.{gave_it}
use Rattle.book_lock.proofs.lock.TurnAt+ref+BookLock+B+B.give.Goals as goal

pub returns-clause-gives : goal.returns-clause-gives
returns-clause-gives g c =
    let t = c.requires.turn in
    gave_it g.B.Booked.book c.pass.inside.seat.table_id c.pass.inside.seat.me c.give_book.new.seat.me c.args.pass.now t.found (g.B.Booked.book c.args.self.book) c.pass.view_is t.out c.pass.invariant.0 c.requires.leave c.give_book.ensures.given
