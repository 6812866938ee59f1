use Rattle.session_rules.proofs.Books.{taken_and_given}
use Rattle.session_rules.proofs.take_and_give_are_a_turn.Goals as goal

pub returns : goal.returns
returns c = taken_and_given
