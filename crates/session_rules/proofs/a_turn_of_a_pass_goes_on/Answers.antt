use Rattle.session_rules.proofs.Books.{goes_on}
use Rattle.session_rules.proofs.a_turn_of_a_pass_goes_on.Goals as goal

pub returns : goal.returns
returns c = goes_on
