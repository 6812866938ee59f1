use Rattle.std.proofs.lemmas.List.{append-nil}
use Rattle.paseto_seal.proofs.wrap.apply_wrap_cipher.Goals as goal

pub returns : goal.returns
returns c = cc (append-nil c.args.nonce.now)
