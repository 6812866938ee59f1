use Rattle.view_rules.proofs.Records.{have_one_list}
use Rattle.view_rules.proofs.view_laws.records_have_one_list.Goals as goal

pub returns : goal.returns
returns g c = have_one_list (g.K.Opener.opens c.args.opener.now)
