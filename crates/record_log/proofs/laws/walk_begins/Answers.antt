use Rattle.log_check.specs.declared.forms.LogForm.TheVariants.{Current}
use Rattle.record_log.proofs.Ways.{walk_begins}
use Rattle.record_log.proofs.laws.walk_begins.Goals as goal

pub returns : goal.returns
returns c = λ log journal has. walk_begins Current log.disk log.gate log.host journal has.holds
