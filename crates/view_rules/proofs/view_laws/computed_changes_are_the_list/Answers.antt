use Rattle.view_rules.proofs.Records.{computed_list}
use Rattle.view_rules.proofs.view_laws.computed_changes_are_the_list.Goals as goal

pub returns : goal.returns
returns c = computed_list
