use Rattle.definitions.proofs.Spelling.{integers_apart, texts_apart, arrays_apart}
use Rattle.definitions.proofs.spelling_laws.no_spelling_begins_another.Goals as goal

pub returns-clause-integer : goal.returns-clause-integer
returns-clause-integer c = integers_apart

pub returns-clause-text : goal.returns-clause-text
returns-clause-text c = texts_apart

pub returns-clause-array : goal.returns-clause-array
returns-clause-array c = arrays_apart
