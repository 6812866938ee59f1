use Rattle.request_rules.proofs.Requests.{one_call}
use Rattle.request_rules.proofs.a_payload_spells_one_call.Goals as goal

pub returns : goal.returns
returns c = one_call
