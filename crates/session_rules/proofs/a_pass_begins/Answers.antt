use Rattle.session_rules.proofs.Books.{goes_begins}
use Rattle.session_rules.proofs.a_pass_begins.Goals as goal

pub returns : goal.returns
returns c = goes_begins
