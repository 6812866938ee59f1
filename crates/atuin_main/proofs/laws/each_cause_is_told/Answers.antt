use Rattle.atuin_main.proofs.Exact.{each_cause_is_told}
use Rattle.atuin_main.proofs.laws.each_cause_is_told.Goals as goal

pub returns : goal.returns
returns c = each_cause_is_told
