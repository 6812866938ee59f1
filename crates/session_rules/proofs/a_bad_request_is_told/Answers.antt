use Rattle.session_rules.proofs.Telling.{bad_is_told}
use Rattle.session_rules.proofs.a_bad_request_is_told.Goals as goal

pub returns : goal.returns
returns c = bad_is_told
