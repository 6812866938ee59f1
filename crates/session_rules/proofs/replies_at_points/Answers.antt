use Rattle.session_rules.proofs.Sessions.{session_told_at}
use Rattle.session_rules.proofs.replies_at_points.Goals as goal

pub returns : goal.returns
returns c = λ store seen number requests used replies journal k request reply session at_k told_k. let here = session_told_at store seen number requests used replies journal k request reply session at_k told_k in (here.used, here.commit, here.told)
