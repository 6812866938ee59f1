use Rattle.std.proofs.Common.{arith}
use Rattle.blake2b_core.proofs.Words.{four_words}
use Rattle.blake2b_core.proofs.compression.words_at.Goals as goal

pub returns : goal.returns
returns c = four_words c.args.block.now c.args.i (omega arith) c.type_inv.block
