use Rattle.record_rules.proofs.Examples.{prefixes}
use Rattle.record_rules.proofs.worked_prefixes.Goals as goal

pub returns : goal.returns
returns c = prefixes
