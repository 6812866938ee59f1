use Rattle.step_rules.proofs.Turns.{reads_stay}
use Rattle.step_rules.proofs.read_call_stays.Goals as goal

pub returns : goal.returns
returns c = reads_stay
