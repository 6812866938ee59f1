use Rattle.view_rules.proofs.Standings.{shown_both}
use Rattle.view_rules.proofs.view_laws.shown_is_the_first.Goals as goal

pub returns : goal.returns
returns c = shown_both
