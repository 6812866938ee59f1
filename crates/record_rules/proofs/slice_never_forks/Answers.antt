use Rattle.record_rules.proofs.Origins.{slice_never_forks}
use Rattle.record_rules.proofs.slice_never_forks.Goals as goal

pub returns : goal.returns
returns c = slice_never_forks
