use Rattle.rehearsal_rules.proofs.Examples.{transfers}
use Rattle.rehearsal_rules.proofs.worked_transfers.Goals as goal

pub returns : goal.returns
returns c = transfers
