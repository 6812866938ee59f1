use Rattle.rehearsal_rules.proofs.Words.{words_follow}
use Rattle.rehearsal_rules.proofs.words_follow.Goals as goal

pub returns : goal.returns
returns c = words_follow
