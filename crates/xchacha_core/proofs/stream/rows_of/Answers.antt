use Rattle.std.proofs.Common.{ap, sym, arith}
use Rattle.xchacha_core.specs.ChaCha.{state_of}
use Rattle.xchacha_core.proofs.Bytes.{row_words}
use Rattle.xchacha_core.proofs.stream.rows_of.Goals as goal

pub returns-clause-state : goal.returns-clause-state
returns-clause-state c = rw (c.row_at.ensures, c.row_at-2.ensures) (ap (state_of c.args.key.now) (sym (row_words c.args.last_row (omega arith))))
