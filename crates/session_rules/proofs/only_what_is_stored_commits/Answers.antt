use Rattle.session_rules.proofs.Stored.{stored_commits}
use Rattle.session_rules.proofs.only_what_is_stored_commits.Goals as goal

pub returns : goal.returns
returns c = stored_commits
