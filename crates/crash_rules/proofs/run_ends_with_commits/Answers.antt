use Rattle.crash_rules.proofs.Runs.{run_ends}
use Rattle.crash_rules.proofs.run_ends_with_commits.Goals as goal

pub returns : goal.returns
returns c = run_ends
