use Rattle.log_rules.proofs.Bodies.{event_stays_read}
use Rattle.log_rules.proofs.event_stays_read.Goals as goal

pub returns : goal.returns
returns c = event_stays_read
