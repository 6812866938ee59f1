use Rattle.session_rules.proofs.Passes.{told_are_counted}
use Rattle.session_rules.proofs.disk_faults_are_counted.Goals as goal

pub returns : goal.returns
returns c = told_are_counted
