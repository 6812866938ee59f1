use Rattle.rehearsal_rules.proofs.Nodes.{hosts_differ}
use Rattle.rehearsal_rules.proofs.hosts_differ.Goals as goal

pub returns : goal.returns
returns c = hosts_differ
