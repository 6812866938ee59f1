use Rattle.crash_rules.proofs.Calls.{log_leaves_images}
use Rattle.crash_rules.proofs.log_leaves_images.Goals as goal

pub returns : goal.returns
returns c = log_leaves_images
