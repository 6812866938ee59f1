use Rattle.std.proofs.Common.{arith}
use Rattle.std.proofs.lemmas.Simd.{put_chunk_whole}
use Rattle.xchacha_core.proofs.Bytes.{length-serialized}
use Rattle.xchacha_core.specs.ChaCha.{serialized}
use Rattle.xchacha_core.proofs.rows.write_row.Goals as goal

pub returns : goal.returns
returns c = rw c.bytes_of.ensures (put_chunk_whole c.args.bytes.now (serialized c.args.row) (omega (arith, length-serialized c.args.row)))
