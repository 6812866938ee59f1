use Rattle.std.proofs.Common.{refl}
use Rattle.xchacha_core.specs.ChaCha.{double_rounds}
use Rattle.xchacha_core.proofs.Rounds.{one_more_round}
use Rattle.xchacha_core.proofs.two_blocks.ten_double_rounds.Goals as goal

pub rounds-init : goal.rounds-init
unfolding double_rounds
rounds-init c = (c.requires, λ b below. refl)

pub double_round-rows-requires : goal.double_round-rows-requires
double_round-rows-requires c = c.rounds.invariant.0

pub rounds-preserved : goal.rounds-preserved
rounds-preserved c = (
  c.double_round-rows.ensures.wide,
  λ b below. one_more_round c.rounds._round _ _ _ (c.rounds.invariant.1 b below) (c.double_round-rows.ensures.states b below),
)
