use Rattle.definitions.proofs.Spelling.{integer_takes, text_takes, array_takes}
use Rattle.definitions.proofs.spelling_laws.what_is_read_is_spelled.Goals as goal

pub returns-clause-integer : goal.returns-clause-integer
returns-clause-integer c = λ bytes v rest are e. let t = integer_takes bytes v rest are e in (t.0, t.1, t.2.parts)

pub returns-clause-text : goal.returns-clause-text
returns-clause-text c = λ bytes v rest are e. let t = text_takes bytes v rest are e in (t.0, t.1, t.2.parts)

pub returns-clause-array : goal.returns-clause-array
returns-clause-array c = λ bytes v rest are e. let t = array_takes bytes v rest are e in (t.0, t.1, t.2.parts)
