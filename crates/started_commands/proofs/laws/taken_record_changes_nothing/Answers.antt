use Rattle.started_commands.proofs.Entries.{taken_changes_nothing}
use Rattle.started_commands.proofs.laws.taken_record_changes_nothing.Goals as goal

pub returns : goal.returns
returns c = taken_changes_nothing
