use Rattle.crash_rules.proofs.Retries.{retry}
use Rattle.crash_rules.proofs.worked_retry.Goals as goal

pub returns : goal.returns
returns c = retry
