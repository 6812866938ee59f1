use Rattle.rehearsal_rules.proofs.Examples.{words}
use Rattle.rehearsal_rules.proofs.worked_words.Goals as goal

pub returns : goal.returns
returns c = words
