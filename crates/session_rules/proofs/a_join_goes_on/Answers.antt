use Rattle.session_rules.proofs.Books.{join_goes_on}
use Rattle.session_rules.proofs.a_join_goes_on.Goals as goal

pub returns : goal.returns
returns c = join_goes_on
