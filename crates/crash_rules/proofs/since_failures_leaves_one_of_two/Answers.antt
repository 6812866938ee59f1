use Rattle.crash_rules.proofs.Crash.{since_failures_one_of_two}
use Rattle.crash_rules.proofs.since_failures_leaves_one_of_two.Goals as goal

pub returns : goal.returns
returns c = since_failures_one_of_two
