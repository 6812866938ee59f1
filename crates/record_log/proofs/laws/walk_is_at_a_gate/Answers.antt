use Rattle.log_check.specs.declared.forms.LogForm.TheVariants.{Current}
use Rattle.record_log.proofs.Ways.{walk_is_at_a_gate}
use Rattle.record_log.proofs.laws.walk_is_at_a_gate.Goals as goal

pub returns : goal.returns
returns c = walk_is_at_a_gate Current
