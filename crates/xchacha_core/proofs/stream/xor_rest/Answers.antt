use Rattle.std.proofs.Common.{◌≡◌, length, refl, arith}
use Rattle.std.proofs.lemmas.List.{nil_from_length}
use Rattle.xchacha_core.specs.Stream.{xored}
use Rattle.xchacha_core.proofs.stream.xor_rest.Goals as goal

pub returns-else-len-gt0 : goal.returns-else-len-gt0
unfolding xored
returns-else-len-gt0 c =
    let nothing : length c.args.rest.now ≡ 0 = omega arith in
    rw (nil_from_length c.args.rest.now nothing) refl
