use Rattle.std.proofs.Common.{◌∙◌, ap, take, arith}
use Rattle.xchacha_core.proofs.Pieces.{first_xored, take-xored}
use Rattle.xchacha_core.proofs.stream.xor_first.Goals as goal

pub returns-then-len-gt128 : goal.returns-then-len-gt128
returns-then-len-gt128 c = ap (take c.args.len) c.xor_four_blocks.ensures ∙ take-xored _ 0 c.args.len c.args.whole.now

pub returns-then-len-gt64 : goal.returns-then-len-gt64
returns-then-len-gt64 c = first_xored _ c.args.whole.now c.xor_two_blocks.new.piece c.args.len 128 (omega arith) (omega arith) c.xor_two_blocks.ensures

pub returns-else-len-gt64 : goal.returns-else-len-gt64
returns-else-len-gt64 c = first_xored _ c.args.whole.now c.xor_block.new.piece c.args.len 64 (omega arith) (omega arith) c.xor_block.ensures
