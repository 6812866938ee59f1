use Rattle.xchacha_core.proofs.Columns.{quarter_rows_column, quarter_rows_wide}
use Rattle.xchacha_core.proofs.one_block.quarter_columns.Goals as goal

pub returns-clause-wide : goal.returns-clause-wide
returns-clause-wide c = quarter_rows_wide 4 c.args.rows.0 c.args.rows.1 c.args.rows.2 c.args.rows.3 c.requires

pub returns-clause-columns : goal.returns-clause-columns
returns-clause-columns c = quarter_rows_column 4 c.args.rows.0 c.args.rows.1 c.args.rows.2 c.args.rows.3 c.requires
