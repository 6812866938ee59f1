use Rattle.record_rules.proofs.Isolation.{replies_as_alone}
use Rattle.record_rules.proofs.replies_as_alone.Goals as goal

pub returns : goal.returns
returns c = replies_as_alone
