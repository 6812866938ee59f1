use Rattle.record_rules.proofs.Origins.{slice_leaves_other_chains}
use Rattle.record_rules.proofs.slice_leaves_other_chains.Goals as goal

pub returns : goal.returns
returns c = slice_leaves_other_chains
