use Rattle.step_rules.proofs.ReadTurns.{ReadTurn-stands}
use Rattle.step_rules.proofs.read_turn_leaves.Goals as goal

pub returns : goal.returns
returns c = λ journal doubt read after doubt_after answer turn. let stands = ReadTurn-stands journal doubt read after doubt_after answer turn in (stands.journal_is, stands.doubt_is)
