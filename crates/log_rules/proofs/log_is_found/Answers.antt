use Rattle.log_rules.proofs.Contents.{log_is_found}
use Rattle.log_rules.proofs.log_is_found.Goals as goal

pub returns : goal.returns
returns c = log_is_found
