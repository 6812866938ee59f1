use Rattle.crash_rules.proofs.Runs.{run_is_cut}
use Rattle.crash_rules.proofs.run_is_cut_between_commits.Goals as goal

pub returns : goal.returns
returns c = run_is_cut
