use Rattle.std.proofs.Common.{◌≡◌, length, bit_xor, sym, arith}
use Rattle.xchacha_core.specs.ChaCha.{serialized}
use Rattle.std.proofs.lemmas.List.{take_all}
use Rattle.std.proofs.lemmas.Simd.{length-zip2, put_chunk_whole}
use Rattle.xchacha_core.proofs.Bytes.{length-serialized, xored_is_zip2}
use Rattle.xchacha_core.proofs.rows.xor_row.Goals as goal

pub returns : goal.returns
returns c =
    let piece = c.args.piece.now in
    let same : length piece ≡ length (serialized c.args.row) = omega (arith, length-serialized c.args.row) in
    rw (take_all 16 piece (omega arith), c.bytes_of.ensures, xored_is_zip2 (serialized c.args.row) piece same)
    (put_chunk_whole piece _ (sym (length-zip2 bit_xor piece (serialized c.args.row) same)))
