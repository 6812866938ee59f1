use Rattle.log_rules.proofs.Bodies.{wrong_is_no_body}
use Rattle.log_rules.proofs.wrong_is_no_body.Goals as goal

pub returns : goal.returns
returns c = wrong_is_no_body
