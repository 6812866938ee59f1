use Rattle.request_rules.proofs.Fitting.{spelled_fits}
use Rattle.request_rules.proofs.a_spelled_call_fits.Goals as goal

pub returns : goal.returns
returns c = spelled_fits
