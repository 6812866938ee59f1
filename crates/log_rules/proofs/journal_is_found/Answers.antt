use Rattle.log_rules.proofs.Contents.{journal_is_found}
use Rattle.log_rules.proofs.journal_is_found.Goals as goal

pub returns : goal.returns
returns c = journal_is_found
