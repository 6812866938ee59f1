use Rattle.record_rules.proofs.Growth.{growth_stays_sound}
use Rattle.record_rules.proofs.growth_keeps_sound.Goals as goal

pub returns : goal.returns
returns c = growth_stays_sound
