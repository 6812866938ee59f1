use Rattle.step_rules.proofs.Examples.{read_turns}
use Rattle.step_rules.proofs.worked_read_turns.Goals as goal

pub returns : goal.returns
returns c = read_turns
