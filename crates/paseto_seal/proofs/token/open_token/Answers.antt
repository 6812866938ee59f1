use Rattle.std.proofs.Common.{ap₂, arith, refl, subst, sym, ◌∙◌}
use Rattle.paseto_seal.specs.Token.{Opens, token_cipher}
use Rattle.paseto_seal.proofs.Opening as opening
use Rattle.paseto_seal.proofs.Parts.{parts_cut}
use Rattle.paseto_seal.proofs.token.open_token.Goals as goal

pub returns-then-len : goal.returns-then-len
returns-then-len c =
    opening.too_short c.args.token.now c.in_ok-body.body.items c.in_ok-body.ensures.ok
    (omega (arith, c.if-len.true, c.len.ensures, c.in_ok-body.body.ok.0))

pub returns-then-not-same_tag : goal.returns-then-not-same_tag
returns-then-not-same_tag c = (
  opening.form_of_carried c.args.token.now c.in_ok-body.body.items c.in_ok-body.ensures.ok
      (omega (arith, c.if-len.false, c.len.ensures, c.in_ok-body.body.ok.0)),
  λ message. opening.other_tag c.args.key.now c.args.token.now c.args.implicit.now message c.in_ok-body.body.items
      c.parts.result.0.now c.parts.result.1.now c.parts.result.2.now c.in_ok-body.ensures.ok
      (sym c.as_slice.ensures.value ∙ c.parts.ensures.whole) c.parts.ensures.nonce c.parts.ensures.tag
      (λ same. let no = c.if-not-same_tag.ensures.1 (c.token_tag-expected.ensures ∙ same) in cc no),
)

pub deciphered-requires-clause-short : goal.deciphered-requires-clause-short
deciphered-requires-clause-short c =
    omega (arith, c.requires, opening.carried_shorter c.args.token.now c.in_ok-body.body.items c.in_ok-body.ensures.ok)

pub returns : goal.returns
returns c =
    let whole = sym c.as_slice.ensures.value ∙ c.parts.ensures.whole in
    let cut = parts_cut c.in_ok-body.body.items c.parts.result.0.now c.parts.result.1.now c.parts.result.2.now whole c.parts.ensures.nonce c.parts.ensures.tag in
    subst (Opens c.args.key.now c.args.token.now c.args.implicit.now)
    (sym (c.from_vec.ensures.items ∙ c.deciphered.ensures ∙ ap₂ (token_cipher c.args.key.now) cut.0 cut.1))
    (opening.tag_opens c.args.key.now c.args.token.now c.args.implicit.now c.in_ok-body.body.items
    c.parts.result.0.now c.parts.result.1.now c.parts.result.2.now c.in_ok-body.ensures.ok whole c.parts.ensures.nonce
    (sym (c.if-not-same_tag.ensures.0 refl) ∙ c.token_tag-expected.ensures))
