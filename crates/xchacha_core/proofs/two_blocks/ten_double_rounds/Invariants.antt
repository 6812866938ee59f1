use Rattle.std.proofs.Common.{◌≡◌, ℕ, ◌<◌}
use Rattle.xchacha_core.specs.ChaCha.{double_rounds}
use Rattle.xchacha_core.specs.Rows.{HasWidth, block_state}
use Rattle.xchacha_core.proofs.two_blocks.ten_double_rounds.Given as goal

abbrev pub invariant-rounds : goal.invariant-rounds
invariant-rounds l = HasWidth 8 l.rows × ((b : ℕ) → b < 2 → block_state l.rows b ≡ double_rounds l._round (block_state l.fn.start b))
