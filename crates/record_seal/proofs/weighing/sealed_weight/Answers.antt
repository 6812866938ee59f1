use Rattle.std.proofs.Common.{arith}
use Rattle.record_seal.proofs.Lengths.{weight_is}
use Rattle.record_seal.specs.Seen.{head_seen}
use Rattle.record_seal.proofs.weighing.sealed_weight.Goals as goal

pub returns-clause-weight : goal.returns-clause-weight
returns-clause-weight c = λ key payload random now payload_long random_long.
    omega (
      arith,
      weight_is key (head_seen c.args.head.now) payload random now random_long,
      payload_long,
      c.base64url_len-message.ensures,
      c.base64url_len-token.ensures,
      c.len.ensures.value,
      c.len-2.ensures.value,
    )

pub returns-clause-lengths : goal.returns-clause-lengths
returns-clause-lengths c =
    omega (
      arith,
      c.base64url_len-message.ensures,
      c.base64url_len-token.ensures,
      c.len.ensures.value,
      c.len-2.ensures.value,
    )
