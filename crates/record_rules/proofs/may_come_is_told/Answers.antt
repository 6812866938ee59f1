use Rattle.record_rules.proofs.Deciding.{may_come_told}
use Rattle.record_rules.proofs.may_come_is_told.Goals as goal

pub returns : goal.returns
returns c = may_come_told
