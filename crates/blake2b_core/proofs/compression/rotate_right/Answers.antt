use Rattle.std.proofs.Common.{◌≡◌, ◌-◌, ◌%◌, arith, refl}
use Rattle.blake2b_core.proofs.Compressing.{elements_all}
use Rattle.blake2b_core.proofs.compression.rotate_right.Goals as goal

pub returns : goal.returns
returns c =
    let right : c.args.by % 64 ≡ c.args.by = omega arith in
    let left : (64 - c.args.by) % 64 ≡ 64 - c.args.by = omega arith in
    rw (right, left, elements_all c.args.lanes 0 4 (omega arith)) refl
