use Rattle.std.proofs.Common.{sym, ap, subst, ◌∙◌, length}
use Rattle.std.specs.Str.{IsUtf8}
use Rattle.uuid.specs.Text.{lower, hyphenated_text}
use Rattle.record_model.proofs.Hyphens.{id_hyphenated, hyphenated-length}
use Rattle.record_model.proofs.ids.record_id_text.Goals as goal

pub copy_from_slice-requires : goal.copy_from_slice-requires
copy_from_slice-requires c = sym (ap length (c.as_bytes.ensures.value ∙ c.encode_lower-text.ensures.text) ∙ hyphenated-length c.hyphenated.result)

pub returns-clause-value : goal.returns-clause-value
returns-clause-value c =
    c.copy_from_slice.ensures.after ∙ c.as_bytes.ensures.value ∙ c.encode_lower-text.ensures.text ∙ ap (hyphenated_text lower) (c.hyphenated.ensures ∙ c.from_u128.ensures)
    ∙ id_hyphenated c.args.id

pub returns-clause-utf8 : goal.returns-clause-utf8
returns-clause-utf8 c = subst IsUtf8 (sym c.copy_from_slice.ensures.after) c.as_bytes.ensures.utf8
