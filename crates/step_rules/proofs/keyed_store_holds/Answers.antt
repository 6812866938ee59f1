use Rattle.step_rules.proofs.Sealing.{keyed_store_holds}
use Rattle.step_rules.proofs.keyed_store_holds.Goals as goal

pub returns : goal.returns
returns c = keyed_store_holds
