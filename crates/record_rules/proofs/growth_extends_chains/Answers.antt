use Rattle.record_rules.proofs.Repeats.{chain_extended}
use Rattle.record_rules.proofs.growth_extends_chains.Goals as goal

pub returns : goal.returns
returns c = chain_extended
