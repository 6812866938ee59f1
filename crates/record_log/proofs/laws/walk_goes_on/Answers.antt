use Rattle.log_check.specs.declared.forms.LogForm.TheVariants.{Current}
use Rattle.record_log.proofs.Ways.{walk_goes_on}
use Rattle.record_log.proofs.laws.walk_goes_on.Goals as goal

pub returns : goal.returns
returns c = walk_goes_on Current
