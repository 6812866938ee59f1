use Rattle.definitions.proofs.Spelling.{written_integer_spells, written_text_spells, written_array_spells, spelled_integer_fits}
use Rattle.definitions.proofs.spelling_laws.what_is_written_is_spelled.Goals as goal

pub returns-clause-integer : goal.returns-clause-integer
returns-clause-integer c = written_integer_spells

pub returns-clause-text : goal.returns-clause-text
returns-clause-text c = written_text_spells

pub returns-clause-array : goal.returns-clause-array
returns-clause-array c = written_array_spells

pub returns-clause-no_other : goal.returns-clause-no_other
returns-clause-no_other c = spelled_integer_fits
