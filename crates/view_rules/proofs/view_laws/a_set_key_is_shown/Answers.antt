use Rattle.view_rules.proofs.Ones.{set_key_shown}
use Rattle.view_rules.proofs.view_laws.a_set_key_is_shown.Goals as goal

pub returns : goal.returns
returns c = set_key_shown
