use Rattle.crash_rules.proofs.Calls.{append_ends}
use Rattle.crash_rules.proofs.append_ends.Goals as goal

pub returns : goal.returns
returns c = append_ends
