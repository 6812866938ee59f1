use Rattle.definitions.proofs.Search.{IsAnswer-one}
use Rattle.definitions.proofs.page_laws.a_search_has_one_answer.Goals as goal

pub returns : goal.returns
returns c = IsAnswer-one
