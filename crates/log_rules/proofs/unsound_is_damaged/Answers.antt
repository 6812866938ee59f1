use Rattle.log_rules.proofs.Spots.{unsound_is_damaged}
use Rattle.log_rules.proofs.unsound_is_damaged.Goals as goal

pub returns : goal.returns
returns c = unsound_is_damaged
