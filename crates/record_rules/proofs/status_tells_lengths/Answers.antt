use Rattle.record_rules.proofs.Status.{status_counts}
use Rattle.record_rules.proofs.status_tells_lengths.Goals as goal

pub returns : goal.returns
returns c = status_counts
