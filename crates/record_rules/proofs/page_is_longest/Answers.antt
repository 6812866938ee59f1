use Rattle.record_rules.proofs.Pages.{page_is_longest}
use Rattle.record_rules.proofs.page_is_longest.Goals as goal

pub returns : goal.returns
returns c = page_is_longest
