use Rattle.session_rules.proofs.Books.{others_find}
use Rattle.session_rules.proofs.others_find_what_a_turn_left.Goals as goal

pub returns : goal.returns
returns c = others_find
