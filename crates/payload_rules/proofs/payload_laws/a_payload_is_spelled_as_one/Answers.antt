use Rattle.payload_rules.proofs.Payloads.{payloads_one}
use Rattle.payload_rules.proofs.payload_laws.a_payload_is_spelled_as_one.Goals as goal

pub returns : goal.returns
returns c = payloads_one
