use Rattle.session_rules.proofs.Examples.{book}
use Rattle.session_rules.proofs.worked_book.Goals as goal

pub returns : goal.returns
returns c = book
