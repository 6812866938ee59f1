use Rattle.payload_rules.proofs.Written.{written_spelled}
use Rattle.payload_rules.proofs.payload_laws.what_is_written_is_spelled.Goals as goal

pub returns : goal.returns
returns c = written_spelled
