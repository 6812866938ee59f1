use Rattle.std.proofs.Common.{arith, take}
use Rattle.http_wire.proofs.Lines.{front_stops, front_ends, front_lines, front_lines_end, full_stops, full_ends, few_lines}
use Rattle.http_wire.proofs.fronts.find_front.Goals as goal

pub returns-then-lines-eq-MOST_HEAD_LINES-clause-lines : goal.returns-then-lines-eq-MOST_HEAD_LINES-clause-lines
returns-then-lines-eq-MOST_HEAD_LINES-clause-lines c =
    let lines = front_lines c.min.result c.loop-index.index c.args.bytes.now c.loop-index-test.true (omega (arith, c.loop-index.invariant, c.if-lines-eq-MOST_HEAD_LINES.true)) c.if-byte-eq10.true in
    omega (arith, lines)

pub returns-then-lines-eq-MOST_HEAD_LINES-clause-front : goal.returns-then-lines-eq-MOST_HEAD_LINES-clause-front
returns-then-lines-eq-MOST_HEAD_LINES-clause-front c =
    front_stops c.min.result c.loop-index.index c.args.bytes.now c.min.ensures c.loop-index-test.true (omega (arith, c.loop-index.invariant, c.if-lines-eq-MOST_HEAD_LINES.true)) c.if-byte-eq10.true

pub returns-then-lines-eq-MOST_HEAD_LINES-clause-full : goal.returns-then-lines-eq-MOST_HEAD_LINES-clause-full
returns-then-lines-eq-MOST_HEAD_LINES-clause-full c =
    full_stops c.min.result c.loop-index.index c.args.bytes.now c.loop-index-test.true (omega (arith, c.loop-index.invariant, c.if-lines-eq-MOST_HEAD_LINES.true)) c.if-byte-eq10.true

pub returns-clause-lines : goal.returns-clause-lines
returns-clause-lines c =
    front_lines_end c.min.result c.args.bytes.now c.min.ensures (few_lines c.loop-index.index c.loop-index.lines (take c.min.result c.args.bytes.now) c.loop-index-test.false c.loop-index.invariant.0 c.loop-index.invariant.1)

pub returns-clause-front : goal.returns-clause-front
returns-clause-front c =
    front_ends c.min.result c.args.bytes.now c.min.ensures (few_lines c.loop-index.index c.loop-index.lines (take c.min.result c.args.bytes.now) c.loop-index-test.false c.loop-index.invariant.0 c.loop-index.invariant.1)

pub returns-clause-full : goal.returns-clause-full
returns-clause-full c =
    full_ends c.min.result c.args.bytes.now c.min.ensures (few_lines c.loop-index.index c.loop-index.lines (take c.min.result c.args.bytes.now) c.loop-index-test.false c.loop-index.invariant.0 c.loop-index.invariant.1)
