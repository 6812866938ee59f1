use Rattle.view_rules.proofs.Ones.{one_command}
use Rattle.view_rules.proofs.view_laws.an_id_has_one_command.Goals as goal

pub returns : goal.returns
returns c = λ changes a b own. one_command changes own a b
