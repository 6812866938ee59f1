use Rattle.crash_rules.proofs.Calls.{open_holds_log}
use Rattle.crash_rules.proofs.open_holds_log.Goals as goal

pub returns : goal.returns
returns c = open_holds_log
