use Rattle.request_rules.proofs.Requests.{call_or_place}
use Rattle.request_rules.proofs.a_payload_is_a_call_or_wrong.Goals as goal

pub returns : goal.returns
returns c = call_or_place
