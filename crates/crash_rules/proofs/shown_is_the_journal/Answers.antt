use Rattle.crash_rules.proofs.Calls.{shown_is_the_journal}
use Rattle.crash_rules.proofs.shown_is_the_journal.Goals as goal

pub returns : goal.returns
returns c = shown_is_the_journal
