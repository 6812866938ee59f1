use Rattle.std.proofs.Common.{ap, arith, length}
use Rattle.record_seal.proofs.Lengths.{length-key_id_of, length-wrap}
use Rattle.record_seal.proofs.keys.write_key_text.Goals as goal

pub from_string-requires : goal.from_string-requires
from_string-requires c =
    omega (
      arith,
      c.in_ok-push_str-3.ensures.len,
      c.in_ok-push_text-2.ensures.len,
      c.in_ok-push_str-2.ensures.len,
      c.in_ok-push_text.ensures.len,
      c.in_ok-push_str.ensures.len,
      c.in_ok-text.ensures.len,
      ap length c.in_ok-wrapped.ensures,
      ap length c.in_ok-id.ensures,
      length-wrap c.args.key.now c.args.nonce.now c.args.content_key.now c.told-nonce c.told-content_key,
      length-key_id_of c.args.key.now,
    )
