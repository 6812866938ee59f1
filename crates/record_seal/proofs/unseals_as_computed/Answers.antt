use Rattle.record_seal.proofs.Telling.{unseals_tells}
use Rattle.record_seal.proofs.unseals_as_computed.Goals as goal

pub returns : goal.returns
returns c = unseals_tells
