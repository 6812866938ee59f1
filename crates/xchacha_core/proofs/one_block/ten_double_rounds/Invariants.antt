use Rattle.std.proofs.Common.{◌≡◌}
use Rattle.xchacha_core.specs.ChaCha.{double_rounds}
use Rattle.xchacha_core.specs.Rows.{HasWidth, block_state}
use Rattle.xchacha_core.proofs.one_block.ten_double_rounds.Given as goal

abbrev pub invariant-rounds : goal.invariant-rounds
invariant-rounds l = HasWidth 4 l.rows × (block_state l.rows 0 ≡ double_rounds l._round (block_state l.fn.start 0))
