use Rattle.record_rules.proofs.Owned.{own_events_grown_other}
use Rattle.record_rules.proofs.growth_leaves_others.Goals as goal

pub returns : goal.returns
returns c = own_events_grown_other
