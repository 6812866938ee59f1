use Rattle.crash_rules.proofs.Runs.{settle_then_append}
use Rattle.crash_rules.proofs.settle_then_append_is_cut.Goals as goal

pub returns : goal.returns
returns c = settle_then_append
