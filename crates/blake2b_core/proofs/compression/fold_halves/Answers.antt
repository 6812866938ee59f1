use Rattle.std.proofs.Common.{ap, sym, arith}
use Rattle.blake2b_core.specs.Compression.{fold_halves}
use Rattle.blake2b_core.proofs.Compressing.{vector_by_words}
use Rattle.blake2b_core.proofs.compression.fold_halves.Goals as goal

pub returns : goal.returns
unfolding fold_halves
returns c =
    rw (c.lanes_of-upper.ensures, c.lanes_of-lower.ensures, c.lanes_of.ensures, c.lanes_of-2.ensures, c.lanes_of-3.ensures, c.lanes_of-4.ensures)
    (sym (ap (fold_halves c.args.state.now) (vector_by_words c.args.rows.0 c.args.rows.1 c.args.rows.2 c.args.rows.3 (omega arith) (omega arith) (omega arith) (omega arith))))
