use Rattle.std.proofs.Common.{[], ◌∷◌, ◌∙◌, sym, arith}
use Rattle.std.proofs.lemmas.Simd.{pick_l_left}
use Rattle.xchacha_core.specs.Rows.{block_state, byte_of_blocks}
use Rattle.xchacha_core.proofs.Blocks.{block_more, sums, sums_wide}
use Rattle.xchacha_core.proofs.Pieces.{xored_up_to-end, xored_up_to-start}
use Rattle.xchacha_core.proofs.two_blocks.xor_two_blocks.Goals as goal

pub returns : goal.returns
returns c =
    let start = c.args.start.now in
    let counter = c.args.counter in
    let text = c.args.piece.now in
    let begun = c.begun.result in
    let ended = c.ten_double_rounds.result in
    let sum = sums ended begun in
    let wide = sums_wide 8 ended begun c.ten_double_rounds.ensures.wide c.begun.ensures.wide in
    let first =
    block_more 8 0 counter start begun ended _ text text c.xor_rows.new.piece (omega arith) c.begun.ensures.wide c.ten_double_rounds.ensures.wide
    (c.begun.ensures.states 0 (omega arith)) (c.ten_double_rounds.ensures.states 0 (omega arith)) (omega arith)
    (pick_l_left 0 sum.0 sum.0 8 (0 ∷ 1 ∷ 2 ∷ 3 ∷ []) wide.0 tt) (pick_l_left 0 sum.1 sum.1 8 (0 ∷ 1 ∷ 2 ∷ 3 ∷ []) wide.1 tt) (pick_l_left 0 sum.2 sum.2 8 (0 ∷ 1 ∷ 2 ∷ 3 ∷ []) wide.2 tt) (pick_l_left 0 sum.3 sum.3 8 (0 ∷ 1 ∷ 2 ∷ 3 ∷ []) wide.3 tt)
    (sym (xored_up_to-start (byte_of_blocks (block_state start 0) counter) text)) c.xor_rows.ensures in
    block_more 8 1 counter start begun ended _ text _ c.xor_rows-2.new.piece (omega arith) c.begun.ensures.wide c.ten_double_rounds.ensures.wide
    (c.begun.ensures.states 1 (omega arith)) (c.ten_double_rounds.ensures.states 1 (omega arith)) (omega arith)
    (pick_l_left 0 sum.0 sum.0 8 (4 ∷ 5 ∷ 6 ∷ 7 ∷ []) wide.0 tt) (pick_l_left 0 sum.1 sum.1 8 (4 ∷ 5 ∷ 6 ∷ 7 ∷ []) wide.1 tt) (pick_l_left 0 sum.2 sum.2 8 (4 ∷ 5 ∷ 6 ∷ 7 ∷ []) wide.2 tt) (pick_l_left 0 sum.3 sum.3 8 (4 ∷ 5 ∷ 6 ∷ 7 ∷ []) wide.3 tt)
    first c.xor_rows-2.ensures
    ∙ xored_up_to-end (byte_of_blocks (block_state start 0) counter) text 128 (omega arith)
