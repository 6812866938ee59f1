use Rattle.search_words.proofs.Finding.{found_in}
use Rattle.search_words.proofs.parsing.matches_in.Goals as goal

pub returns : goal.returns
returns c = found_in c.args.words.now c.parsed.result c.parsed.ensures
