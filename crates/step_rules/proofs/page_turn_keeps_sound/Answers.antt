use Rattle.step_rules.proofs.PageTurns.{PageTurn-sound}
use Rattle.step_rules.proofs.page_turn_keeps_sound.Goals as goal

pub returns : goal.returns
returns c = λ journal doubt caller owner records after doubt_after answer host sound doubted turn. PageTurn-sound journal doubt caller owner records after doubt_after answer host sound doubted turn
