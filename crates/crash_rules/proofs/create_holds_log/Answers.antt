use Rattle.crash_rules.proofs.Calls.{create_holds_log}
use Rattle.crash_rules.proofs.create_holds_log.Goals as goal

pub returns : goal.returns
returns c = create_holds_log
