use Rattle.request_rules.proofs.Requests.{call_never_wrong}
use Rattle.request_rules.proofs.a_call_is_never_wrong.Goals as goal

pub returns : goal.returns
returns c = call_never_wrong
