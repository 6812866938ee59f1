use Rattle.definitions.proofs.Examples.{frames_worked}
use Rattle.definitions.proofs.worked.worked_frames.Goals as goal

pub returns : goal.returns
returns c = frames_worked
