use Rattle.session_rules.proofs.Sessions.{commit_is_own}
use Rattle.session_rules.proofs.commits_are_own.Goals as goal

pub returns : goal.returns
returns c = commit_is_own
