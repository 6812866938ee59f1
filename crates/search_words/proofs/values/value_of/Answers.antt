use Rattle.search_words.proofs.Digits.{too_great}
use Rattle.search_words.proofs.values.value_of.Goals as goal

pub returns-in-Err : goal.returns-in-Err
returns-in-Err c = too_great c.args.digits.now c.requires c.in-Err.ensures.value.0
