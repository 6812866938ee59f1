use Rattle.session_crashes.proofs.Runs.{answers_stay}
use Rattle.session_crashes.proofs.what_was_answered_stays.Goals as goal

pub returns : goal.returns
returns c = answers_stay
