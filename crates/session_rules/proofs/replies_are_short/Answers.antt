use Rattle.session_rules.proofs.Shown.{reply-short}
use Rattle.session_rules.proofs.replies_are_short.Goals as goal

pub returns : goal.returns
returns c = reply-short
