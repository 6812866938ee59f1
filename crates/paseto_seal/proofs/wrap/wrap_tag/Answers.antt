use Rattle.paseto_seal.proofs.Derived.{wrap_tag_steps}
use Rattle.paseto_seal.proofs.wrap.wrap_tag.Goals as goal

pub returns : goal.returns
returns c =
    wrap_tag_steps c.args.by.now c.args.nonce.now c.args.cipher.now c.hash_pieces.new.out c.as_bytes.result.now c.hash_pieces-2.new.out
    c.hash_pieces.ensures c.as_bytes.ensures.value c.hash_pieces-2.ensures
