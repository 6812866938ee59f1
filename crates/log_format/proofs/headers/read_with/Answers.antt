use Rattle.std.proofs.Common.{sym, arith}
use Rattle.log_format.proofs.ReadHeaders.{header_there}
use Rattle.log_format.proofs.headers.read_with.Goals as goal

pub returns-in-Some : goal.returns-in-Some
returns-in-Some c = λ form digit. sym (c.in-Some.ensures.fault form digit)

pub returns-in-None : goal.returns-in-None
returns-in-None c = λ form digit. header_there form c.args.bytes.now c.read_u128.result (λ i. omega (arith, c.type_inv.bytes i)) (c.in-None.ensures.fault form digit) c.read_u128.ensures
