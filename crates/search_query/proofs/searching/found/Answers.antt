use Rattle.search_query.specs.Answers.{test_of}
use Rattle.history_view.specs.Walk.{walked_in}
use Rattle.search_query.proofs.Walks.{blank_remembers, makes_all}
use Rattle.search_query.proofs.searching.found.Goals as goal

pub whole-requires-clause-remembers : goal.whole-requires-clause-remembers
whole-requires-clause-remembers c = blank_remembers c.args.view.now.texts (test_of c.args.query.now) c.in_ok-memo.memo.items c.in_ok-memo.ensures.blank

pub whole-requires-clause-makes : goal.whole-requires-clause-makes
whole-requires-clause-makes c = makes_all c.args.query.now c.args.view.now (walked_in c.newest-rows.result.inner) c.newest-rows.ensures.walked c.newest-rows.ensures.rows

pub begun-requires-clause-makes : goal.begun-requires-clause-makes
begun-requires-clause-makes c = makes_all c.args.query.now c.args.view.now (walked_in c.newest-rows.result.inner) c.newest-rows.ensures.walked c.newest-rows.ensures.rows
