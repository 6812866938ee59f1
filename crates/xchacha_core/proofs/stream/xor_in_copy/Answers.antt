use Rattle.std.proofs.Common.{◌∙◌, length, ap}
use Rattle.std.proofs.lemmas.List.{take_at}
use Rattle.xchacha_core.specs.Rows.{block_state, byte_of_blocks}
use Rattle.xchacha_core.specs.Stream.{xored}
use Rattle.xchacha_core.proofs.stream.xor_in_copy.Goals as goal

pub returns : goal.returns
returns c =
    c.copy_from_slice-2.ensures.after ∙ c.xor_first.ensures
    ∙ ap (xored (byte_of_blocks (block_state c.args.start.now 0) c.args.counter) 0)
    (take_at c.copy_from_slice.new.self _ (length c.args.text.now) (ap length c.copy_from_slice.ensures.after) ∙ c.copy_from_slice.ensures.after)
