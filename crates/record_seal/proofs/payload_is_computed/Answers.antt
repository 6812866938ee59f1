use Rattle.record_seal.proofs.Computing.{payload_found, payload_stands}
use Rattle.record_seal.proofs.payload_is_computed.Goals as goal

pub returns : goal.returns
returns c = λ key r payload. (payload_found key r payload, payload_stands key r payload)
