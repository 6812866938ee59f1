use Rattle.session_rules.proofs.Books.{first_begins}
use Rattle.session_rules.proofs.the_first_pass_finds_its_book.Goals as goal

pub returns : goal.returns
returns c = first_begins
