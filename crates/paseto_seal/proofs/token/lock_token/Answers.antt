use Rattle.std.proofs.Common.{ap, length, arith}
use Rattle.paseto_seal.proofs.Opening.{length-token_body}
use Rattle.paseto_seal.proofs.token.lock_token.Goals as goal

pub carry-requires-clause-body : goal.carry-requires-clause-body
carry-requires-clause-body c =
    omega (
      arith,
      ap length c.as_slice.ensures.value,
      ap length c.in_ok-body.ensures,
      length-token_body c.args.key.now c.args.nonce.now c.args.message.now c.args.implicit.now,
      c.requires,
    )
