use Rattle.std.proofs.Common.{arith, refl}
use Rattle.blake2b_core.proofs.Compressing.{working_vector_by_words}
use Rattle.blake2b_core.proofs.compression.working_vector.Goals as goal
use Rattle.blake2b_core.proofs.compression.working_vector.Goals.{then-last, else-last}

pub returns : goal.returns
returns c =
    working_vector_by_words c.args.state.now c.args.t c.args.last _ c.if-last.mark (omega arith) (omega arith)
    (elim c.if-last.branch [ then-last w ↦ rw (w.mark-is, w.if-last.true) refl | else-last w ↦ rw (w.mark-is, w.if-last.false) refl ])
