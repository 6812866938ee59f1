use Rattle.record_rules.proofs.NextPage.{next_page_is_taken}
use Rattle.record_rules.proofs.next_page_is_taken.Goals as goal

pub returns : goal.returns
returns c = next_page_is_taken
