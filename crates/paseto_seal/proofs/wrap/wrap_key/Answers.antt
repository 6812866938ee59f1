use Rattle.std.proofs.Common.{ap, arith, length}
use Rattle.paseto_seal.proofs.Unwrapping.{length-wrap_body}
use Rattle.paseto_seal.proofs.wrap.wrap_key.Goals as goal

pub carry-requires-clause-body : goal.carry-requires-clause-body
carry-requires-clause-body c =
    omega (
      arith,
      ap length c.as_slice.ensures.value,
      ap length c.in_ok-body.ensures,
      length-wrap_body c.args.by.now c.args.nonce.now c.args.key.now,
      c.told-nonce,
      c.told-key,
    )
