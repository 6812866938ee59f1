use Rattle.session_rules.proofs.Passes.{numbers_rise}
use Rattle.session_rules.proofs.numbers_rise.Goals as goal

pub returns : goal.returns
returns c = numbers_rise
