use Rattle.record_rules.proofs.Repeats.{standing_page}
use Rattle.record_rules.proofs.standing_adds_nothing.Goals as goal

pub returns : goal.returns
returns c = standing_page
