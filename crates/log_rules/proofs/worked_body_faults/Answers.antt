use Rattle.log_rules.proofs.Bodies.{body_faults}
use Rattle.log_rules.proofs.worked_body_faults.Goals as goal

pub returns : goal.returns
returns c = body_faults
