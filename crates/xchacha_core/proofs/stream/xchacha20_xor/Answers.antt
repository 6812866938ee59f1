use Rattle.std.proofs.Common.{◌≡◌, ◌+◌, ◌-◌, ◌*◌, ◌/◌, ◌∙◌, ap, length, refl, arith}
use Rattle.xchacha_core.specs.Rows.{block_state}
use Rattle.xchacha_core.specs.Stream.{key_stream, xchacha20, xored}
use Rattle.xchacha_core.proofs.Pieces.{blocks_more, xored_up_to, xored_up_to-end}
use Rattle.xchacha_core.proofs.StreamLaws.{xchacha20-xchacha20}
use Rattle.xchacha_core.proofs.stream.xchacha20_xor.Goals as goal

pub pieces-init : goal.pieces-init
unfolding xored
pieces-init c = refl

pub pieces-preserved : goal.pieces-preserved
pieces-preserved c =
    blocks_more _ _ c.args.buf.now c.pieces.buf c.xor_four_blocks.new.piece (block_state c.first_rows-start.result 0)
    (4 * c.pieces.i) (256 * c.pieces.i) (256 * c.pieces.i + 256 - 256 * c.pieces.i)
    (omega arith) (omega arith) c.first_rows-start.ensures.state c.pieces.invariant c.xor_four_blocks.ensures
    ∙ ap (xored_up_to (key_stream c.args.key.now c.args.nonce.now) c.args.buf.now) (omega arith)

pub returns-clause-text : goal.returns-clause-text
unfolding xchacha20
returns-clause-text c =
    let whole = 256 * (length c.args.buf.now / 256) in
    let reached : 256 * c.pieces.i ≡ whole = omega arith in
    blocks_more _ _ c.args.buf.now c.pieces.buf c.xor_rest.new.rest (block_state c.first_rows-start.result 0)
    (4 * (length c.args.buf.now / 256)) whole (length c.pieces.buf - whole)
    (omega arith) (omega arith) c.first_rows-start.ensures.state (c.pieces.invariant ∙ ap (xored_up_to _ _) reached) c.xor_rest.ensures
    ∙ xored_up_to-end (key_stream c.args.key.now c.args.nonce.now) c.args.buf.now (whole + (length c.pieces.buf - whole)) (omega arith)

pub returns-clause-twice : goal.returns-clause-twice
returns-clause-twice c =
    ap (xchacha20 c.args.key.now c.args.nonce.now) (returns-clause-text c) ∙ xchacha20-xchacha20 c.args.key.now c.args.nonce.now c.args.buf.now
