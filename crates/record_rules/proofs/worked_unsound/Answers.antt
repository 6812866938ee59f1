use Rattle.record_rules.proofs.Examples.{unsound}
use Rattle.record_rules.proofs.worked_unsound.Goals as goal

pub returns : goal.returns
returns c = unsound
