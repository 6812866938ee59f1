use Rattle.std.proofs.Common.{Err, ap, length, refl, subst, sym, ◌∙◌}
use Rattle.std.proofs.lemmas.Result.{err_from_is_err_and}
use Rattle.paseto_seal.specs.Wrap.{Unwraps, wrap_cipher}
use Rattle.paseto_seal.proofs.Unwrapping as unwrapping
use Rattle.paseto_seal.proofs.wrap.unwrap_key.Goals as goal

pub returns-then-text-ne-WRAP_CHARACTERS : goal.returns-then-text-ne-WRAP_CHARACTERS
returns-then-text-ne-WRAP_CHARACTERS c = λ form. c.if-text-ne-WRAP_CHARACTERS.true (unwrapping.form_length c.args.text.now form)

pub returns-in_err-body : goal.returns-in_err-body
returns-in_err-body c =
    let p = err_from_is_err_and c.from_residual.result c.from_residual.ensures.1 in rw (p.1, p.2)
    (unwrapping.carries_nothing c.args.by.now c.args.text.now c.in_err-body.field-0.0
    (λ is. c.in_err-body.ensures.not_carried (ap Err is)))

pub parts-requires : goal.parts-requires
parts-requires c =
    ap length c.as_slice.ensures.value
    ∙ unwrapping.carried_length c.args.text.now c.in_ok-body.body.items c.in_ok-body.ensures.ok c.if-text-ne-WRAP_CHARACTERS.false

pub returns-then-not-same_tag : goal.returns-then-not-same_tag
returns-then-not-same_tag c = (
  unwrapping.form_of_carried c.args.text.now c.in_ok-body.body.items c.in_ok-body.ensures.ok
      (unwrapping.carried_length c.args.text.now c.in_ok-body.body.items c.in_ok-body.ensures.ok c.if-text-ne-WRAP_CHARACTERS.false),
  λ key. unwrapping.other_tag c.args.by.now c.args.text.now key c.in_ok-body.body.items
      c.parts.result.0.now c.parts.result.1.now c.parts.result.2.now c.in_ok-body.ensures.ok
      (sym c.as_slice.ensures.value ∙ c.parts.ensures.whole) c.parts.ensures.tag c.parts.ensures.nonce
      (λ same. let no = c.if-not-same_tag.ensures.1 (c.wrap_tag-expected.ensures ∙ same) in cc no),
)

pub returns : goal.returns
returns c =
    subst (Unwraps c.args.by.now c.args.text.now)
    (sym (c.apply_wrap_cipher.ensures ∙ ap (wrap_cipher c.args.by.now c.parts.result.1.now) c.copy_from_slice.ensures.after))
    (unwrapping.tag_unwraps c.args.by.now c.args.text.now c.in_ok-body.body.items
    c.parts.result.0.now c.parts.result.1.now c.parts.result.2.now c.in_ok-body.ensures.ok
    (sym c.as_slice.ensures.value ∙ c.parts.ensures.whole) c.parts.ensures.nonce c.parts.ensures.cipher
    (sym (c.if-not-same_tag.ensures.0 refl) ∙ c.wrap_tag-expected.ensures))
