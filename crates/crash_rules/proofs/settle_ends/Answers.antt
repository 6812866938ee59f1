use Rattle.crash_rules.proofs.Calls.{settle_ends}
use Rattle.crash_rules.proofs.settle_ends.Goals as goal

pub returns : goal.returns
returns c = settle_ends
