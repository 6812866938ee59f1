use Rattle.log_rules.proofs.Logs.{standing_has_header}
use Rattle.log_rules.proofs.standing_has_header.Goals as goal

pub returns : goal.returns
returns c = standing_has_header
