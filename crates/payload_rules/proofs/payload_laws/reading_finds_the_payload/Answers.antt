use Rattle.payload_rules.proofs.Reading.{payload_found, payload_again}
use Rattle.payload_rules.proofs.payload_laws.reading_finds_the_payload.Goals as goal

pub returns : goal.returns
returns c tag version bytes payload are = (payload_found tag version bytes payload are, payload_again tag version bytes payload are)
