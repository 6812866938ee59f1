use Rattle.session_rules.proofs.Http.{http_uses_nothing}
use Rattle.session_rules.proofs.http_uses_nothing.Goals as goal

pub returns : goal.returns
returns c = http_uses_nothing
