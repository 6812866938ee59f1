use Rattle.paseto_seal.proofs.Opening.{opens_same}
use Rattle.paseto_seal.proofs.token_opens_once.Goals as goal

pub returns : goal.returns
returns c = opens_same
