use Rattle.std.proofs.Common.{arith, refl}
use Rattle.blake2b_core.proofs.Compressing.{round_by_mixes}
use Rattle.blake2b_core.proofs.compression.round.Goals as goal

pub returns : goal.returns
returns c =
    rw (c.turned_by_one-2.ensures, c.turned_by_two-2.ensures, c.turned_by_three-2.ensures, c.mix_columns-2.ensures, c.turned_by_one.ensures, c.turned_by_two.ensures, c.turned_by_three.ensures, c.mix_columns.ensures)
    (round_by_mixes c.args.m.now c.args.s.now c.args.rows.0 c.args.rows.1 c.args.rows.2 c.args.rows.3 (omega arith) (omega arith) (omega arith) (omega arith)
    _ _ _ _ _ _ _ _ refl refl refl refl refl refl refl refl)
