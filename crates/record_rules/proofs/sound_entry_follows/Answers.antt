use Rattle.record_rules.proofs.Prefixes.{Sound-shorter, last_may_follow}
use Rattle.record_rules.proofs.sound_entry_follows.Goals as goal

pub returns : goal.returns
returns c = λ journal host entry sound. (Sound-shorter journal host entry sound, last_may_follow journal host entry sound)
