use Rattle.std.proofs.Common.{◌∙◌, refl}
use Rattle.xchacha_core.proofs.stream.first_rows.Goals as goal

pub returns-clause-state : goal.returns-clause-state
returns-clause-state c = c.rows_of.ensures.state ∙ rw (c.hchacha20.ensures, c.copy_from_slice.ensures.after, c.row_at.ensures) refl
