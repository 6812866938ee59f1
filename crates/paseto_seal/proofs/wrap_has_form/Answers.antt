use Rattle.paseto_seal.proofs.Unwrapping.{unwraps_form}
use Rattle.paseto_seal.proofs.wrap_has_form.Goals as goal

pub returns : goal.returns
returns c = unwraps_form
