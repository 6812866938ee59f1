use Rattle.view_rules.proofs.Ones.{set_name_shown}
use Rattle.view_rules.proofs.view_laws.a_set_name_is_shown.Goals as goal

pub returns : goal.returns
returns c = set_name_shown
