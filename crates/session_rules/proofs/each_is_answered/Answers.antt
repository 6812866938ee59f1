use Rattle.session_rules.proofs.Sessions.{as_many}
use Rattle.session_rules.proofs.each_is_answered.Goals as goal

pub returns : goal.returns
returns c = as_many
