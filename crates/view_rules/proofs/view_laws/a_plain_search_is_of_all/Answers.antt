use Rattle.view_rules.proofs.Searches.{plain_of_all}
use Rattle.view_rules.proofs.view_laws.a_plain_search_is_of_all.Goals as goal

pub returns : goal.returns
returns c = plain_of_all
