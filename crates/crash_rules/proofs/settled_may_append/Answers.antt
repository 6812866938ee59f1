use Rattle.crash_rules.proofs.Calls.{settled_may_append}
use Rattle.crash_rules.proofs.settled_may_append.Goals as goal

pub returns : goal.returns
returns c = settled_may_append
