use Rattle.session_crashes.proofs.Examples.{crashes_worked}
use Rattle.session_crashes.proofs.worked_crashes.Goals as goal

pub returns : goal.returns
returns c = crashes_worked
