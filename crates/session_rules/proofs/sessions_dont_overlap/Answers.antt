use Rattle.std.proofs.Common.{sym, ◌∙◌}
use Rattle.session_rules.proofs.Sessions.{commit_is_own}
use Rattle.session_rules.proofs.sessions_dont_overlap.Goals as goal

pub returns : goal.returns
returns c = λ store other seen seen_there number other_number requests others used used_there replies replies_there journal other_journal entry one two differ first second.
    differ (sym (commit_is_own store seen number requests used replies journal entry one first) ∙ commit_is_own other seen_there other_number others used_there replies_there other_journal entry two second)
