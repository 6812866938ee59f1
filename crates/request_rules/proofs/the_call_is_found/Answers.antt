use Rattle.request_rules.proofs.Requests.{request_found}
use Rattle.request_rules.proofs.the_call_is_found.Goals as goal

pub returns : goal.returns
returns c = request_found
