use Rattle.paseto_seal.proofs.Derived.{token_cipher_steps}
use Rattle.paseto_seal.proofs.token.apply_token_cipher.Goals as goal

pub returns : goal.returns
returns c =
    token_cipher_steps c.args.key.now c.args.nonce.now c.args.text.now c.hash_pieces.new.out c.apply_cipher.new.text
    c.hash_pieces.ensures c.apply_cipher.ensures
