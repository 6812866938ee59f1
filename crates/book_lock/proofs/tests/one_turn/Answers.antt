use Rattle.book_lock.specs.NumberBooks.{number_book}
use Rattle.book_lock.proofs.Laws.{turn_of_pass}
use Rattle.book_lock.proofs.tests.one_turn.Goals as goal

pub returns-clause-turn : goal.returns-clause-turn
returns-clause-turn g c = let found = number_book c.take-turn.result.book.numbers.items in let left = number_book c.add.new.self.numbers.items in
    (found, left, turn_of_pass c.args.pass.now c.take-turn.new.pass found left c.give.new.pass.pass c.take-turn.ensures.takes c.take-turn.ensures.out c.give.ensures.gives)
