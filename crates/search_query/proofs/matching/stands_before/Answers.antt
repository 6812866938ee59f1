use Rattle.std.proofs.Common.{ℕ, List, ◌+◌, length, Some, None, false, refl, ap, arith}
use Rattle.std.specs.Prelude.{leb}
use Rattle.search_query.proofs.Needles.{found_in_front}
use Rattle.search_query.proofs.matching.stands_before.Goals as goal

pub returns-in-Some : goal.returns-in-Some
returns-in-Some c =
    found_in_front c.args.bytes.now c.args.finder.now c.args.end c.min-most.result (Some c.in-Some.at) _ (omega arith) c.requires c.in-Some.ensures (ap (λ (needle : List ℕ). leb (c.in-Some.at + length needle) c.args.end) c.needle.ensures)

pub returns-in-None : goal.returns-in-None
returns-in-None c = found_in_front c.args.bytes.now c.args.finder.now c.args.end c.min-most.result None false (omega arith) c.requires c.in-None.ensures refl
