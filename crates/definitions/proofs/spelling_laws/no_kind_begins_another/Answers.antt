use Rattle.definitions.proofs.Spelling.{integer_and_text_apart, integer_and_array_apart, array_and_text_apart}
use Rattle.definitions.proofs.spelling_laws.no_kind_begins_another.Goals as goal

pub returns-clause-integer_text : goal.returns-clause-integer_text
returns-clause-integer_text c = integer_and_text_apart

pub returns-clause-integer_array : goal.returns-clause-integer_array
returns-clause-integer_array c = integer_and_array_apart

pub returns-clause-array_text : goal.returns-clause-array_text
returns-clause-array_text c = array_and_text_apart
