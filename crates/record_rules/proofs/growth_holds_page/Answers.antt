use Rattle.record_rules.proofs.Repeats.{page_stands}
use Rattle.record_rules.proofs.growth_holds_page.Goals as goal

pub returns : goal.returns
returns c = page_stands
