use Rattle.crash_rules.proofs.Crash.{since_settling_one_of_two}
use Rattle.crash_rules.proofs.since_settling_leaves_one_of_two.Goals as goal

pub returns : goal.returns
returns c = since_settling_one_of_two
