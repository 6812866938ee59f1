use Rattle.std.proofs.Common.{drop, arith, ◌∙◌}
use Rattle.std.proofs.lemmas.List.{length-drop, take_all}
use Rattle.store_core.proofs.recording.behind_ten.Goals as goal

pub returns-clause-others : goal.returns-clause-others
returns-clause-others c =
    c.copy_from_slice.ensures.after ∙ take_all 96 (drop 10 c.args.bytes.now) (omega (arith, length-drop 10 c.args.bytes.now, c.told-bytes))
