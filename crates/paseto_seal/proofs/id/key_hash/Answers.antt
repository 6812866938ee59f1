use Rattle.paseto_seal.proofs.Derived.{key_id_steps}
use Rattle.paseto_seal.proofs.id.key_hash.Goals as goal

pub returns : goal.returns
returns c = key_id_steps c.args.key.now c.write_base64url.new.out c.hash_pieces.new.out c.write_base64url.ensures c.hash_pieces.ensures
