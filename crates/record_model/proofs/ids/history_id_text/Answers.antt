use Rattle.std.proofs.Common.{sym, ap, subst, ◌∙◌}
use Rattle.std.specs.Str.{IsUtf8}
use Rattle.hex.specs.Hex.{encode_lower}
use Rattle.definitions.proofs.Ids.{id_text-utf8}
use Rattle.record_model.proofs.Digits.{id_encoded}
use Rattle.record_model.proofs.ids.history_id_text.Goals as goal

pub returns-clause-value : goal.returns-clause-value
returns-clause-value c = c.in-Ok.ensures.written ∙ ap encode_lower c.to_be_bytes.ensures ∙ id_encoded c.args.id

pub returns-clause-utf8 : goal.returns-clause-utf8
returns-clause-utf8 c = subst IsUtf8 (sym (c.in-Ok.ensures.written ∙ ap encode_lower c.to_be_bytes.ensures ∙ id_encoded c.args.id)) (id_text-utf8 c.args.id)
