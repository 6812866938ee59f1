use Rattle.std.proofs.Common.{ap, arith, length}
use Rattle.record_seal.proofs.Lengths.{length-message_text}
use Rattle.record_seal.proofs.sealing.seal.Goals as goal

pub lock_token-requires : goal.lock_token-requires
lock_token-requires c =
    omega (
      arith,
      ap length c.as_bytes.ensures.value,
      ap length c.in_ok-message.ensures,
      length-message_text c.args.payload.now,
      c.requires,
    )
