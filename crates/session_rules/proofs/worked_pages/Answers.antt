use Rattle.session_rules.proofs.Examples.{pages}
use Rattle.session_rules.proofs.worked_pages.Goals as goal

pub returns : goal.returns
returns c = pages
