use Rattle.std.proofs.Common.{ap, ap₂, arith, take, ◌∙◌}
use Rattle.std.proofs.lemmas.List.{take_at}
use Rattle.paseto_seal.specs.Token.{token_cipher}
use Rattle.paseto_seal.proofs.token.deciphered.Goals as goal

pub returns : goal.returns
returns c =
    take_at c.apply_token_cipher.new.text _ c.keep_cipher.new.body.len (omega (arith, c.apply_token_cipher.auto.text, c.deref_mut.ensures.len))
    ∙ c.apply_token_cipher.ensures
    ∙ ap₂ (token_cipher c.args.key.now)
    (c.copy_from_slice.ensures.after ∙ c.split_at.ensures.front ∙ ap (take 32) c.as_slice.ensures.value)
    (c.deref_mut.ensures.value ∙ c.keep_cipher.ensures)
