use Rattle.record_rules.proofs.Repeats.{repeated_page}
use Rattle.record_rules.proofs.repeat_adds_nothing.Goals as goal

pub returns : goal.returns
returns c = repeated_page
