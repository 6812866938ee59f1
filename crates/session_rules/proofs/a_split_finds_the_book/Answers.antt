use Rattle.session_rules.proofs.Books.{split_finds}
use Rattle.session_rules.proofs.a_split_finds_the_book.Goals as goal

pub returns : goal.returns
returns c = split_finds
