use Rattle.log_rules.proofs.Weights.{events_weigh_their_bytes}
use Rattle.log_rules.proofs.events_weigh_their_bytes.Goals as goal

pub returns : goal.returns
returns c = events_weigh_their_bytes
