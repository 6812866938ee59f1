use Rattle.record_rules.proofs.Deciding.{may_all_come_told}
use Rattle.record_rules.proofs.sound_is_told.Goals as goal

pub returns : goal.returns
returns c = may_all_come_told
