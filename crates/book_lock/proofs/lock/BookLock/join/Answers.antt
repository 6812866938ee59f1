use Rattle.std.proofs.Common.{◌∙◌}
use Rattle.book_lock.proofs.LockPasses.{joins}
use Rattle.book_lock.proofs.lock.BookLock.join.Goals as goal

pub returns-clause-joins : goal.returns-clause-joins
returns-clause-joins g c =
    joins g.B.Booked.book c.pass.inside.seat.table_id c.look_up.new.seat.table_id c.other.inside.seat.table_id c.pass.inside.seat.me c.other.inside.seat.me c.take_in.new.seat.me c.look_up.new.seat.me c.look_up.result c.args.pass.now c.args.other
    c.pass.view_is c.other.view_is (c.look_up.ensures.seat.0 ∙ c.take_in.ensures.seat.0) c.take_in.ensures.both c.look_up.ensures.looked c.look_up.ensures.next.0 c.look_up.ensures.next.1 c.look_up.ensures.next.2 c.look_up.ensures.olds
