use Rattle.session_rules.proofs.Http.{requests_get_responses}
use Rattle.session_rules.proofs.requests_get_responses.Goals as goal

pub returns : goal.returns
returns c = requests_get_responses
