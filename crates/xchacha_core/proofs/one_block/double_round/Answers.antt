use Rattle.std.proofs.Common.{arith}
use Rattle.xchacha_core.proofs.Rounds.{double_round_state}
use Rattle.xchacha_core.proofs.one_block.double_round.Goals as goal

pub returns-clause-state : goal.returns-clause-state
returns-clause-state c =
    rw (c.turned_by_one-2.ensures, c.turned_by_three-2.ensures, c.turned_by_two-2.ensures)
    (double_round_state 4 0 c.args.rows c.quarter_columns.result c.quarter_columns-2.result (omega arith) c.quarter_columns.ensures.columns
    (rw (c.turned_by_three.ensures, c.turned_by_one.ensures, c.turned_by_two.ensures) at c.quarter_columns-2.ensures.columns))
