use Rattle.std.proofs.Common.{◌-◌, ◌++◌, ap, arith, drop, length, ◌∙◌}
use Rattle.std.proofs.lemmas.List.{length-drop, take_all, take_at}
use Rattle.paseto_seal.specs.Token.{token_tag}
use Rattle.paseto_seal.proofs.Derived.{token_body_steps}
use Rattle.paseto_seal.proofs.token.token_body.Goals as goal

pub returns : goal.returns
returns c =
    let text = c.encipher_behind_nonce.new.body in
    let kept = take_at text _ c.extend_from_slice-2.new.self.len (omega (arith, c.encipher_behind_nonce.auto.body, c.deref_mut.ensures.len)) in
    let body = c.deref.result.now in
    token_body_steps c.args.key.now c.args.nonce.now c.args.message.now c.args.implicit.now c.deref_mut.result.now text c.token_tag-tag.result
    c.extend_from_slice-3.new.self.items c.told-nonce
    (c.deref_mut.ensures.value ∙ c.in_ok-extend_from_slice-2.ensures.items
    ∙ ap (λ xs. xs ++ c.args.message.now) (c.in_ok-extend_from_slice.ensures.items ∙ ap (λ xs. xs ++ c.args.nonce.now) c.in_ok-body.ensures.items))
    c.encipher_behind_nonce.ensures.front c.encipher_behind_nonce.ensures.cipher
    (c.token_tag-tag.ensures
    ∙ ap (λ cipher. token_tag c.args.key.now c.args.nonce.now cipher c.args.implicit.now)
    (take_all (length body - 32) (drop 32 body) (omega (arith, length-drop 32 body)) ∙ ap (drop 32) (c.deref.ensures.value ∙ kept)))
    (c.in_ok-extend_from_slice-3.ensures.items ∙ ap (λ xs. xs ++ c.token_tag-tag.result) kept)
