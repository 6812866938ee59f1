use Rattle.search_words.specs.Words.{texts}
use Rattle.search_words.proofs.Asking.{asked}
use Rattle.search_words.proofs.queries.read_query.Goals as goal

pub returns-in-Some : goal.returns-in-Some
returns-in-Some c = asked (texts c.args.words.now) c.in_ok-found.field-0 c.in-Some.found c.query_found.result c.in-Some.is c.in_ok-found.ensures c.query_found.ensures
