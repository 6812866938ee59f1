use Rattle.rehearsal_rules.proofs.Rows.{rows}
use Rattle.rehearsal_rules.proofs.worked_rows.Goals as goal

pub returns : goal.returns
returns c = rows
