use Rattle.std.proofs.Common.{◌-◌, ◌++◌, length, take, drop, ap, arith, ◌∙◌}
use Rattle.std.proofs.lemmas.List.{append-nil, drop_at, drop_all, take_all, length-drop, length-take-le}
use Rattle.std.proofs.lemmas.Slice.{take-put_mid_below}
use Rattle.paseto_seal.specs.Token.{token_cipher}
use Rattle.paseto_seal.proofs.token.encipher_behind_nonce.Goals as goal

pub returns-clause-front : goal.returns-clause-front
returns-clause-front c =
    take-put_mid_below 32 (length c.args.body.now - 32) c.args.body.now c.apply_token_cipher.new.text 32 (omega arith) c.requires.long

pub returns-clause-cipher : goal.returns-clause-cipher
returns-clause-cipher c =
    let body = c.args.body.now in
    let text = c.apply_token_cipher.new.text in
    let count = length body - 32 in
    let whole = length-drop 32 body in
    drop_at (take 32 body) (text ++ drop count (drop 32 body)) 32 (length-take-le 32 body c.requires.long)
    ∙ ap (λ rest. text ++ rest) (drop_all count (drop 32 body) (omega arith))
    ∙ append-nil text ∙ c.apply_token_cipher.ensures
    ∙ ap (token_cipher c.args.key.now c.args.nonce.now) (take_all count (drop 32 body) (omega arith))
