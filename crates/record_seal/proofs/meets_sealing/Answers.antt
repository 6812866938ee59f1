use Rattle.std.proofs.Common.{refl}
use Rattle.record_seal.proofs.StoreSealing.{record_sealing}
use Rattle.record_seal.proofs.meets_sealing.Goals as goal

pub returns : goal.returns
returns c = (record_sealing, record { seal = refl; opens = refl; sealed_length = refl; wrapped_length = refl })
