use Rattle.definitions.proofs.Frames.{StreamEnds-some, StreamEnds-one}
use Rattle.definitions.proofs.frame_laws.a_whole_input_ends_in_one_way.Goals as goal

pub returns-clause-some : goal.returns-clause-some
returns-clause-some c = StreamEnds-some

pub returns-clause-one : goal.returns-clause-one
returns-clause-one c = λ bytes ps qs a b x y. let one = StreamEnds-one bytes ps qs a b x y in (one.0, one.1)
