use Rattle.record_rules.proofs.Examples.{sound_journal}
use Rattle.record_rules.proofs.worked_sound.Goals as goal

pub returns : goal.returns
returns c = sound_journal
