use Rattle.std.proofs.Common.{sym, ◌∙◌, ap}
use Rattle.book_lock.specs.LockPasses.{LockPass}
use Rattle.book_lock.proofs.LockPasses.{may_learn_it, Took, took, took_is_pass, took_is_taken, took_is_turn, takes_it}
use Rattle.book_lock.proofs.lock.BookLock.take.Goals as goal
use Rattle.book_lock.proofs.lock.BookLock.take.Goals.{After-learn_book-count}

took_it : (g : _) (c : After-learn_book-count g) → Took g.B.Booked.book c.pass.inside.seat.me.0 (g.B.Booked.book c.win_book-book.result) c.learn_book-count.result c.learn_book-count.new.seat.me
took_it g c = took g.B.Booked.book c.pass.inside.seat.me.0 c.win_book-book.result c.win_book-book.new.seat.me c.learn_book-count.new.seat.me c.learn_book-count.result c.win_book-book.ensures.picked c.learn_book-count.ensures.learned

pub learn_book-count-requires-clause-seat : goal.learn_book-count-requires-clause-seat
learn_book-count-requires-clause-seat g c = may_learn_it g.B.Booked.book c.pass.inside.seat.me.0 c.win_book-book.result c.win_book-book.new.seat.me c.pass.invariant.0.0 c.win_book-book.ensures.picked

pub invariant_of-pass : goal.invariant_of-pass
invariant_of-pass g c =
    took_is_pass g.B.Booked.book c.pass.inside.seat.me.0 (g.B.Booked.book c.win_book-book.result) c.learn_book-count.result c.learn_book-count.new.seat.me c.pass.invariant.0.0 c.win_book-book.ensures.picked.room (took_it g c) c.pass.inside.number c.pass.invariant.1

pub returns-clause-turn : goal.returns-clause-turn
returns-clause-turn g c =
    took_is_turn g.B.Booked.book c.args.self.now c.learn_book-count.new.seat.table_id c.pass.inside.seat.me.0 c.learn_book-count.new.seat.me (g.B.Booked.book c.win_book-book.result) c.learn_book-count.result
    (sym (c.learn_book-count.ensures.seat.0 ∙ c.win_book-book.ensures.seat.0 ∙ ap (λ p. p.lock) c.pass.view_is ∙ c.requires.at)) (took_it g c)

pub returns-clause-out : goal.returns-clause-out
returns-clause-out g c =
    took_is_taken g.B.Booked.book c.learn_book-count.new.seat.table_id c.pass.inside.seat.table_id c.pass.inside.seat.me c.learn_book-count.new.seat.me c.args.pass.now (g.B.Booked.book c.win_book-book.result) c.learn_book-count.result
    (c.learn_book-count.ensures.seat.0 ∙ c.win_book-book.ensures.seat.0) c.pass.view_is (took_it g c)

pub returns-clause-takes : goal.returns-clause-takes
returns-clause-takes g c =
    takes_it g.B.Booked.book c.pass.inside.seat.me c.learn_book-count.new.seat.me (g.B.Booked.book c.win_book-book.result) c.learn_book-count.result c.args.pass.now.pass
    (ap (λ (p : LockPass). p.pass) c.pass.view_is) c.win_book-book.ensures.picked.finds c.win_book-book.ensures.picked.room (took_it g c)
