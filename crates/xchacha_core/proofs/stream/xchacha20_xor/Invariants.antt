use Rattle.std.proofs.Common.{◌≡◌, ◌*◌}
use Rattle.xchacha_core.specs.Stream.{key_stream}
use Rattle.xchacha_core.proofs.Pieces.{xored_up_to}
use Rattle.xchacha_core.proofs.stream.xchacha20_xor.Given as goal

abbrev pub invariant-pieces : goal.invariant-pieces
invariant-pieces l = l.buf ≡ xored_up_to (key_stream l.key l.nonce) l.initial.buf (256 * l.i)
