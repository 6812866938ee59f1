use Rattle.session_rules.proofs.Reading.{is_read_as}
use Rattle.session_rules.proofs.a_payload_is_one_request.Goals as goal

pub returns : goal.returns
returns c = is_read_as
