use Rattle.record_rules.proofs.Prefixes.{Sound-prefix}
use Rattle.record_rules.proofs.prefix_is_sound.Goals as goal

pub returns : goal.returns
returns c = Sound-prefix
