use Rattle.log_check.specs.declared.forms.LogForm.TheVariants.{Current}
use Rattle.record_log.proofs.Ways.{walk_ends}
use Rattle.record_log.proofs.laws.walk_ends.Goals as goal

pub returns : goal.returns
returns c = walk_ends Current
