use Rattle.definitions.proofs.Frames.{CutAfter-some, CutAfter-one}
use Rattle.definitions.proofs.frame_laws.a_limited_stream_is_cut_in_one_way.Goals as goal

pub returns-clause-some : goal.returns-clause-some
returns-clause-some c = CutAfter-some

pub returns-clause-one : goal.returns-clause-one
returns-clause-one c = CutAfter-one
