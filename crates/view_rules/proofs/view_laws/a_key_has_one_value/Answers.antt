use Rattle.view_rules.proofs.Ones.{one_value}
use Rattle.view_rules.proofs.view_laws.a_key_has_one_value.Goals as goal

pub returns : goal.returns
returns c = λ changes namespace key a b own. one_value changes own namespace key a b
