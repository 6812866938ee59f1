use Rattle.log_rules.proofs.Headers.{read_header}
use Rattle.log_rules.proofs.read_header.Goals as goal

pub returns : goal.returns
returns c = read_header
