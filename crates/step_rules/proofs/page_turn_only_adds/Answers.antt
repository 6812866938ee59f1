use Rattle.step_rules.proofs.PageTurns.{PageTurn-adds}
use Rattle.step_rules.proofs.page_turn_only_adds.Goals as goal

pub returns : goal.returns
returns c = PageTurn-adds
