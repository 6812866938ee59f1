use Rattle.payload_rules.proofs.Examples.{payloads}
use Rattle.payload_rules.proofs.payload_laws.worked_payloads.Goals as goal

pub returns : goal.returns
returns c = payloads
