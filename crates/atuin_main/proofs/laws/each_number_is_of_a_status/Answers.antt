use Rattle.atuin_main.proofs.Causes.{ends_by_status}
use Rattle.atuin_main.proofs.laws.each_number_is_of_a_status.Goals as goal

pub returns : goal.returns
returns c = ends_by_status
