use Rattle.session_rules.proofs.Books.{join_finds}
use Rattle.session_rules.proofs.a_join_finds_the_book.Goals as goal

pub returns : goal.returns
returns c = join_finds
