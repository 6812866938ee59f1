use Rattle.printing.proofs.Lines.{no_hits, prints_one_more}
use Rattle.printing.proofs.hits.hits_text.Goals as goal

pub loop-hit-init : goal.loop-hit-init
loop-hit-init c = rw (c.new-out.ensures.items) no_hits

pub loop-hit-preserved : goal.loop-hit-preserved
loop-hit-preserved c =
    let (line, is, put) = c.in_ok-push_hit.ensures in
    rw put (prints_one_more c.args.hits.now c.loop-hit.hit-index c.hit-item.result c.loop-hit.out.items line c.loop-hit-test.true c.hit-item.is c.loop-hit.invariant is)
