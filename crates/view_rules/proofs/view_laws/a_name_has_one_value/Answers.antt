use Rattle.view_rules.proofs.Ones.{one_alias}
use Rattle.view_rules.proofs.view_laws.a_name_has_one_value.Goals as goal

pub returns : goal.returns
returns c = λ changes name a b own. one_alias changes own name a b
