use Rattle.std.proofs.Common.{◌++◌, List, length, ap}
use Rattle.std.proofs.lemmas.List.{drop-replicate}
use Rattle.blake2b_core.proofs.padded.Goals as goal

pub returns : goal.returns
returns c = rw c.copy_from_slice.ensures.after (ap (λ (rest : List _). c.args.bytes.now ++ rest) (drop-replicate (length c.args.bytes.now) 128 0))
