use Rattle.std.proofs.Common.{arith}
use Rattle.search_query.proofs.Walks.{spans_more, spans_all}
use Rattle.search_query.proofs.memo.hits_span.Goals as goal

pub loop-number-init : goal.loop-number-init
loop-number-init c = λ w row below. absurd (omega (arith, below))

pub loop-number-preserved : goal.loop-number-preserved
loop-number-preserved c = spans_more c.args.view.now c.args.memo.now.items c.loop-number.number c.loop-number.span c.span_with-span.result c.loop-number.invariant c.span_with-span.ensures.keeps c.span_with-span.ensures.more

pub returns : goal.returns
returns c = spans_all c.args.view.now c.args.memo.now.items c.loop-number.number c.loop-number.span c.requires (omega arith) c.loop-number.invariant
