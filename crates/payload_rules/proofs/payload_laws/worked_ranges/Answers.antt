use Rattle.payload_rules.proofs.Examples.{ranges}
use Rattle.payload_rules.proofs.payload_laws.worked_ranges.Goals as goal

pub returns : goal.returns
returns c = ranges
