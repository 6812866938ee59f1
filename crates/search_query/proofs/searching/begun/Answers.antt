use Rattle.search_query.specs.Answers.{test_of}
use Rattle.search_query.proofs.Walks.{blank_remembers}
use Rattle.search_query.proofs.searching.begun.Goals as goal

pub walk-requires-clause-remembers : goal.walk-requires-clause-remembers
walk-requires-clause-remembers c = blank_remembers c.args.view.now.texts (test_of c.args.query.now) c.in_ok-memo.memo.items c.in_ok-memo.ensures.blank
