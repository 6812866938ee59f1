use Rattle.record_rules.proofs.Isolation.{replies_alone}
use Rattle.record_rules.proofs.replies_alone.Goals as goal

pub returns : goal.returns
returns c = replies_alone
