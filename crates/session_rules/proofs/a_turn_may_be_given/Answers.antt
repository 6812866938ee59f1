use Rattle.session_rules.proofs.Books.{may_be_given}
use Rattle.session_rules.proofs.a_turn_may_be_given.Goals as goal

pub returns : goal.returns
returns c = may_be_given
