use Rattle.std.proofs.Common.{◌∙◌, slice_index, sym, arith}
use Rattle.xchacha_core.specs.ChaCha.{serialized}
use Rattle.xchacha_core.specs.Rows.{Rows, block_state}
use Rattle.xchacha_core.proofs.Bytes.{bytes_of_row}
use Rattle.xchacha_core.proofs.Pieces.{part_more, xored_up_to-end, xored_up_to-start}
use Rattle.xchacha_core.proofs.rows.xor_rows.Goals as goal

pub returns : goal.returns
returns c =
    let rows : Rows = (c.args.first, c.args.second, c.args.third, c.args.fourth) in
    let text = c.args.piece.now in
    let stream = slice_index (serialized (block_state rows 0)) in
    let same = bytes_of_row rows c.requires.wide in
    let first = part_more stream (slice_index (serialized rows.0)) text text c.xor_row.new.piece 0 16 (omega arith) same.0 (sym (xored_up_to-start stream text)) c.xor_row.ensures in
    let second = part_more stream (slice_index (serialized rows.1)) text _ c.xor_row-2.new.piece 16 16 (omega arith) same.1 first c.xor_row-2.ensures in
    let third = part_more stream (slice_index (serialized rows.2)) text _ c.xor_row-3.new.piece 32 16 (omega arith) same.2 second c.xor_row-3.ensures in
    part_more stream (slice_index (serialized rows.3)) text _ c.xor_row-4.new.piece 48 16 (omega arith) same.3 third c.xor_row-4.ensures
    ∙ xored_up_to-end stream text 64 (omega arith)
