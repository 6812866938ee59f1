use Rattle.view_rules.proofs.Records.{chains_make_changes}
use Rattle.view_rules.proofs.view_laws.equal_chains_hold_the_same.Goals as goal

pub returns : goal.returns
returns g c = chains_make_changes (g.K.Opener.opens c.args.opener.now)
