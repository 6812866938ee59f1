use Rattle.atuin_main.proofs.Causes.{tells_cause}
use Rattle.atuin_main.proofs.laws.each_number_tells_its_cause.Goals as goal

pub returns : goal.returns
returns c = tells_cause
