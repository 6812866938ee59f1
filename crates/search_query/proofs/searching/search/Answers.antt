use Rattle.std.proofs.Common.{List, Vec, Global, Result, Ok, Err, IfOk}
use Rattle.definitions.specs.Journal.{HistoryRecord}
use Rattle.view_rules.specs.Changes.{Change, HaveDistinctPlaces}
use Rattle.view_rules.specs.Answers.{SearchAnswer}
use Rattle.plain_types.specs.declared.no_memory.NoMemory.{NoMemory}
use Rattle.record_model.specs.declared.asking.Query.{Query}
use Rattle.history_view.specs.declared.shown.ShownCommand.{ShownCommand}
use Rattle.history_view.specs.ViewState.{ViewState, Means}
use Rattle.search_query.specs.Answers.{query_seen, seen_of, IsAnswerOf, ListsShown}
use Rattle.search_query.proofs.Answering.{answered}
use Rattle.search_query.proofs.searching.search.Goals as goal

answer_of : (query : Query) (s : ViewState) (newest : List HistoryRecord) (r : Result (Vec ShownCommand Global) NoMemory) → IfOk r (λ hits. IsAnswerOf query newest (seen_of hits.items)) → ListsShown s newest
    → IfOk r (λ hits. (changes : List Change) → Means s changes → HaveDistinctPlaces changes → SearchAnswer changes (query_seen query) (seen_of hits.items))
answer_of query s newest (Ok hits) page lists = answered query s newest (seen_of hits.items) lists page
answer_of query s newest (Err none) page lists = tt

pub returns-clause-answer : goal.returns-clause-answer
returns-clause-answer c = answer_of c.args.query.now c.args.view.now _ c.found.result c.found.ensures.page c.found.ensures.listed
