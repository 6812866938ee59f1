use Rattle.paseto_seal.proofs.Opening.{opens_form}
use Rattle.paseto_seal.proofs.token_has_form.Goals as goal

pub returns : goal.returns
returns c = opens_form
