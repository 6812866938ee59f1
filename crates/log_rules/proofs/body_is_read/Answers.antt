use Rattle.log_rules.proofs.Bodies.{body_is_read}
use Rattle.log_rules.proofs.body_is_read.Goals as goal

pub returns : goal.returns
returns c = body_is_read
