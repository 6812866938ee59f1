use Rattle.std.proofs.Common.{arith}
use Rattle.xchacha_core.proofs.Rounds.{double_round_state}
use Rattle.xchacha_core.proofs.two_blocks.double_round.Goals as goal

pub returns-clause-states : goal.returns-clause-states
returns-clause-states c = λ b below.
    rw (c.turned_by_one-2.ensures, c.turned_by_three-2.ensures, c.turned_by_two-2.ensures)
    (double_round_state 8 b c.args.rows c.quarter_columns.result c.quarter_columns-2.result (omega arith) c.quarter_columns.ensures.columns
    (rw (c.turned_by_three.ensures, c.turned_by_one.ensures, c.turned_by_two.ensures) at c.quarter_columns-2.ensures.columns))
