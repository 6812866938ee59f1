use Rattle.search_query.proofs.Walks.{SpansBelow}
use Rattle.search_query.proofs.memo.hits_span.Given as goal

abbrev pub invariant-loop-number : goal.invariant-loop-number
invariant-loop-number l = SpansBelow l.view l.memo.items l.number l.span
