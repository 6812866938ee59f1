use Rattle.record_seal.proofs.OneReading.{payload_same}
use Rattle.record_seal.proofs.opens_to_one.Goals as goal

pub returns : goal.returns
returns c = payload_same
