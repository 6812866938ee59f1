use Rattle.step_rules.proofs.Examples.{commands}
use Rattle.step_rules.proofs.worked_command.Goals as goal

pub returns : goal.returns
returns c = commands
