use Rattle.record_rules.proofs.Examples.{totals}
use Rattle.record_rules.proofs.worked_totals.Goals as goal

pub returns : goal.returns
returns c = totals
