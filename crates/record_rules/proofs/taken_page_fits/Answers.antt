use Rattle.record_rules.proofs.PageLimits.{taken_page_fits}
use Rattle.record_rules.proofs.taken_page_fits.Goals as goal

pub returns : goal.returns
returns c = taken_page_fits
