use Rattle.log_rules.proofs.Weights.{light_events_are_a_batch}
use Rattle.log_rules.proofs.light_events_are_a_batch.Goals as goal

pub returns : goal.returns
returns c = light_events_are_a_batch
