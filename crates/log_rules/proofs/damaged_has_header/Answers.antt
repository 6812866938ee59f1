use Rattle.log_rules.proofs.Logs.{damaged_has_header}
use Rattle.log_rules.proofs.damaged_has_header.Goals as goal

pub returns : goal.returns
returns c = damaged_has_header
