use Rattle.view_rules.proofs.Searches.{search_one}
use Rattle.view_rules.proofs.view_laws.a_search_has_one_answer.Goals as goal

pub returns : goal.returns
returns c = search_one
