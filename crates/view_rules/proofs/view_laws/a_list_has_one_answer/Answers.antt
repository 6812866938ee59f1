use Rattle.view_rules.specs.Views.{ShowsAlias}
use Rattle.view_rules.specs.Answers.{Named, IsKey}
use Rattle.view_rules.proofs.Lists.{list_one}
use Rattle.view_rules.proofs.view_laws.a_list_has_one_answer.Goals as goal

pub returns-clause-keys : goal.returns-clause-keys
returns-clause-keys c changes namespace = list_one (IsKey changes namespace)

pub returns-clause-names : goal.returns-clause-names
returns-clause-names c changes = list_one (λ (item : Named). ShowsAlias changes item.name item.value)
