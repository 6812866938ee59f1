use Rattle.log_rules.proofs.Contents.{store_is_shown}
use Rattle.log_rules.proofs.store_is_shown.Goals as goal

pub returns : goal.returns
returns c = store_is_shown
