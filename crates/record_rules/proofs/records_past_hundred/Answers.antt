use Rattle.record_rules.proofs.PageLimits.{full_page_and_more}
use Rattle.record_rules.proofs.records_past_hundred.Goals as goal

pub returns : goal.returns
returns c = full_page_and_more
