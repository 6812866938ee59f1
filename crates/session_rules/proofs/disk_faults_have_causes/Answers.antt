use Rattle.session_rules.proofs.Http.{faults_have_causes}
use Rattle.session_rules.proofs.disk_faults_have_causes.Goals as goal

pub returns : goal.returns
returns c = faults_have_causes
