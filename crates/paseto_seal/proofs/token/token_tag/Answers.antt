use Rattle.std.proofs.lemmas.List.{append-nil}
use Rattle.paseto_seal.proofs.token.token_tag.Goals as goal

pub returns : goal.returns
returns c = cc (c.as_bytes.ensures.value, append-nil c.args.nonce.now)
