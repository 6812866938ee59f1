use Rattle.rehearsal_rules.proofs.Running.{none_is_bad}
use Rattle.rehearsal_rules.proofs.no_run_is_bad.Goals as goal

pub returns : goal.returns
returns c = none_is_bad
