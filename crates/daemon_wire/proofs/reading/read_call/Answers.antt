use Rattle.std.proofs.Common.{arith}
use Rattle.daemon_wire.proofs.CallLaws.{is_read, fits_so}
use Rattle.daemon_wire.proofs.reading.read_call.Goals as goal

pub returns-clause-read : goal.returns-clause-read
returns-clause-read c = is_read c.args.payload.now c.call_in.result (λ i. omega (arith, c.type_inv.payload i)) c.requires.short c.call_in.ensures

pub returns-clause-fits : goal.returns-clause-fits
returns-clause-fits c = fits_so c.args.payload.now c.call_in.result c.requires.short (returns-clause-read c)
