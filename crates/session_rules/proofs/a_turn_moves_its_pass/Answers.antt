use Rattle.session_rules.proofs.Books.{moves_and_finds}
use Rattle.session_rules.proofs.a_turn_moves_its_pass.Goals as goal

pub returns : goal.returns
returns c = moves_and_finds
