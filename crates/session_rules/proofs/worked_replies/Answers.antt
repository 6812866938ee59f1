use Rattle.session_rules.proofs.Examples.{replies}
use Rattle.session_rules.proofs.worked_replies.Goals as goal

pub returns : goal.returns
returns c = replies
