use Rattle.view_rules.proofs.Records.{go_on}
use Rattle.view_rules.proofs.view_laws.changes_go_on.Goals as goal

pub returns : goal.returns
returns g c = go_on (g.K.Opener.opens c.args.opener.now)
