use Rattle.definitions.proofs.Spelling.{integer_least, text_least, array_least}
use Rattle.definitions.proofs.spelling_laws.no_spelling_is_shorter_than_the_written_one.Goals as goal

pub returns-clause-integer : goal.returns-clause-integer
returns-clause-integer c = integer_least

pub returns-clause-text : goal.returns-clause-text
returns-clause-text c = text_least

pub returns-clause-array : goal.returns-clause-array
returns-clause-array c = array_least
