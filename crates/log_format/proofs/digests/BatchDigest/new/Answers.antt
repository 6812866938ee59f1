use Rattle.std.proofs.Common.{ℕ, List, [], ◌++◌, subst}
use Rattle.std.specs.Int.{w64, to_be_bytes}
use Rattle.blake2b_core.specs.Hashing.{Holds}
use Rattle.log_format.proofs.digests.BatchDigest.new.Goals as goal

pub returns : goal.returns
returns c =
    let added = c.update-2.ensures.added [] c.to_be_bytes.result (c.update.ensures.added [] [] c.new-hasher.ensures.empty) in
    let first = subst (λ (a : List ℕ). Holds c.update-2.new.self [] (a ++ c.to_be_bytes-2.result)) c.to_be_bytes.ensures added in
    subst (λ (b : List ℕ). Holds c.update-2.new.self [] (to_be_bytes w64 c.args.offset ++ b)) c.to_be_bytes-2.ensures first
