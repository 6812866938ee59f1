use Rattle.search_words.proofs.Digits.{strips}
use Rattle.search_words.proofs.values.behind.Goals as goal

pub returns : goal.returns
returns c = strips c.args.first.now c.args.value.now c.strip_prefix.result c.strip_prefix.ensures.cases
