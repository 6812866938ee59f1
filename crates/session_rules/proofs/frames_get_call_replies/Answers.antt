use Rattle.session_rules.proofs.Telling.{session_as_calls}
use Rattle.session_rules.proofs.frames_get_call_replies.Goals as goal

pub returns : goal.returns
returns c = session_as_calls
