use Rattle.std.proofs.Common.{ℕ, ◌-◌, ◌≤◌, length, arith, length-append, ap, ◌∙◌}
use Rattle.book_lock.proofs.LockPasses.{put, shown, may_free_it, freed_it}
use Rattle.book_lock.proofs.seats.give_book.Goals as goal

pub commit_book-requires-clause-seat : goal.commit_book-requires-clause-seat
commit_book-requires-clause-seat g c =
    let s = c.requires.seat in
    let total : ℕ = length (g.B.Booked.book c.args.book).entries in
    let grown : length s.found.entries ≤ total = omega (arith, ap length s.may.entries ∙ length-append s.found.entries s.may.added) in
    put g.B.Booked.book c.args.seat.now.me c.args.book c.args.count c.put_down.new.seat.me (c.entry_count.result - c.args.count) s c.put_down.ensures.full (omega (arith, grown, c.entry_count.ensures, s.counted))

pub free_turn-requires-clause-seat : goal.free_turn-requires-clause-seat
free_turn-requires-clause-seat g c =
    let s = c.requires.seat in
    may_free_it g.B.Booked.book c.args.seat.now.me c.args.book s.found c.commit_book.new.seat.me s.is_named
    (shown g.B.Booked.book c.args.seat.now.me c.args.book c.args.count c.put_down.new.seat.me c.commit_book.new.seat.me s c.put_down.ensures.full c.commit_book.ensures.committed)

pub returns-clause-given : goal.returns-clause-given
returns-clause-given g c other held =
    let s = c.requires.seat in
    freed_it g.B.Booked.book c.args.seat.now.me c.args.book s.found other c.commit_book.new.seat.me c.free_turn.new.seat.me
    (shown g.B.Booked.book c.args.seat.now.me c.args.book c.args.count c.put_down.new.seat.me c.commit_book.new.seat.me s c.put_down.ensures.full c.commit_book.ensures.committed) c.free_turn.ensures.freed s.held held
