use Rattle.record_rules.proofs.Origins.{slice_keeps_prefix}
use Rattle.record_rules.proofs.slice_keeps_prefix.Goals as goal

pub returns : goal.returns
returns c = slice_keeps_prefix
