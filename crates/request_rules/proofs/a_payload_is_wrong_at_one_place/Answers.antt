use Rattle.request_rules.proofs.Requests.{one_request_place}
use Rattle.request_rules.proofs.a_payload_is_wrong_at_one_place.Goals as goal

pub returns : goal.returns
returns c = one_request_place
