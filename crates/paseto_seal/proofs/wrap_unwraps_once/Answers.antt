use Rattle.paseto_seal.proofs.Unwrapping.{unwraps_same}
use Rattle.paseto_seal.proofs.wrap_unwraps_once.Goals as goal

pub returns : goal.returns
returns c = unwraps_same
