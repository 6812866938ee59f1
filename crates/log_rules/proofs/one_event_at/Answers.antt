use Rattle.log_rules.proofs.Spots.{one_event_at}
use Rattle.log_rules.proofs.one_event_at.Goals as goal

pub returns : goal.returns
returns c = one_event_at
