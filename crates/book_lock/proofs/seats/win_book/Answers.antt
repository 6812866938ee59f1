use Rattle.book_lock.proofs.LockPasses.{picked_up}
use Rattle.book_lock.proofs.seats.win_book.Goals as goal

pub returns-clause-picked : goal.returns-clause-picked
returns-clause-picked g c = picked_up g.B.Booked.book c.args.seat.now.me.0 c.pick_up.result c.win_turn.new.seat.me c.pick_up.new.seat.me c.win_turn.ensures.got c.pick_up.ensures.book c.pick_up.ensures.empty
