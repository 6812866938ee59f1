use Rattle.std.proofs.Common.{ap, ◌∙◌}
use Rattle.definitions.specs.Reading.{is_id_text, id_value}
use Rattle.definitions.proofs.Ids.{id_text-length, id_text-ascii, id_text-utf8, id_value-id_text, id_text-one, is_id_text-found, is_id_text-id_text}
use Rattle.definitions.proofs.id_laws.an_id_prints_and_is_read_back.Goals as goal

pub returns-clause-digits : goal.returns-clause-digits
returns-clause-digits c = λ id. (id_text-length id, id_text-ascii id, id_text-utf8 id)

pub returns-clause-back : goal.returns-clause-back
returns-clause-back c = id_value-id_text

pub returns-clause-one : goal.returns-clause-one
returns-clause-one c = id_text-one

pub returns-clause-test : goal.returns-clause-test
returns-clause-test c = λ text. (λ e. let f = is_id_text-found text e in (id_value text, f.0, f.1), λ f. ap is_id_text f.2 ∙ is_id_text-id_text f.0)
