use Rattle.definitions.proofs.Spelling.{integer_again, text_again, array_again}
use Rattle.definitions.proofs.spelling_laws.what_is_spelled_is_read.Goals as goal

pub returns-clause-integer : goal.returns-clause-integer
returns-clause-integer c = integer_again

pub returns-clause-text : goal.returns-clause-text
returns-clause-text c = text_again

pub returns-clause-array : goal.returns-clause-array
returns-clause-array c = array_again
