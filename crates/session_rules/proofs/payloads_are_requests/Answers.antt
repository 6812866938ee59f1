use Rattle.session_rules.proofs.Reading.{are_read_as}
use Rattle.session_rules.proofs.payloads_are_requests.Goals as goal

pub returns : goal.returns
returns c = are_read_as
