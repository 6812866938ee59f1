use Rattle.record_rules.proofs.Soundness.{Sound-push}
use Rattle.record_rules.proofs.entry_keeps_sound.Goals as goal

pub returns : goal.returns
returns c = λ journal host entry. Sound-push journal entry host
