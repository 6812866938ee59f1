use Rattle.session_rules.proofs.Examples.{http}
use Rattle.session_rules.proofs.worked_http.Goals as goal

pub returns : goal.returns
returns c = http
