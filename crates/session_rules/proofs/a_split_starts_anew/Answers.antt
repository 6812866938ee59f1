use Rattle.session_rules.proofs.Passes.{starts_anew}
use Rattle.session_rules.proofs.a_split_starts_anew.Goals as goal

pub returns : goal.returns
returns c = starts_anew
