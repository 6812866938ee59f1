use Rattle.step_rules.proofs.Examples.{page_turns}
use Rattle.step_rules.proofs.worked_page_turns.Goals as goal

pub returns : goal.returns
returns c = page_turns
