use Rattle.std.proofs.Common.{◌≡◌, ◌+◌, ◌/◌, length, arith}
use Rattle.blake2b_core.proofs.Blocks.{IsAfter_part}
use Rattle.blake2b_core.proofs.absorb.Goals as goal

pub whole-init : goal.whole-init
whole-init c = λ start input n after part.
    let none : n + 0 ≡ n = omega arith in
    rw none after

pub whole-preserved : goal.whole-preserved
whole-preserved c = λ start input n after part.
    rw c.compress.ensures
    (IsAfter_part start input n c.whole.state c.whole.count c.args.blocks.now c.whole.i (c.whole.invariant start input n after part) part (omega arith))

pub returns : goal.returns
returns c = λ start input n after part.
    let all : c.whole.i ≡ length c.args.blocks.now / 128 = omega arith in
    rw all at c.whole.invariant start input n after part
