use Rattle.crash_rules.proofs.Runs.{opening_leaves_no_more, since_opening_leaves_no_more}
use Rattle.crash_rules.proofs.opening_leaves_no_more.Goals as goal

pub returns-clause-now : goal.returns-clause-now
returns-clause-now c = opening_leaves_no_more

pub returns-clause-since : goal.returns-clause-since
returns-clause-since c = since_opening_leaves_no_more
