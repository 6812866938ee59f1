use Rattle.std.proofs.Common.{◌≡◌}
use Rattle.history_view.specs.Walk.{walked_in}
use Rattle.search_query.specs.Answers.{IsOnWay, IsKnown, IsBounded}
use Rattle.search_query.proofs.searching.walk.Given as goal

abbrev pub invariant-loop-walked : goal.invariant-loop-walked
invariant-loop-walked l =
    IsOnWay l.query l.view (walked_in l.view.order) (walked_in l.walked-iterator.inner) l.memo.items l.hits.items l.bytes l.skip l.fn.steps l.steps
    × IsBounded l.fn.steps l.steps l.fn.most l.left
    × (IsKnown l.fn.memo.items → IsKnown l.memo.items × (l.steps ≡ l.fn.steps))
