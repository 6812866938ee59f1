use Rattle.log_rules.proofs.Bodies.{read_body}
use Rattle.log_rules.proofs.read_body.Goals as goal

pub returns : goal.returns
returns c = read_body
