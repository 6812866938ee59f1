use Rattle.payload_rules.proofs.Payloads.{payloads_apart}
use Rattle.payload_rules.proofs.payload_laws.no_payload_begins_another.Goals as goal

pub returns : goal.returns
returns c = payloads_apart
