use Rattle.session_rules.proofs.Owners.{answers_owner}
use Rattle.session_rules.proofs.a_turn_answers_its_owner.Goals as goal

pub returns : goal.returns
returns c = λ store journal caller asked used after doubt_after answer one turn at well. answers_owner journal caller store asked used after doubt_after answer one turn at well
