use Rattle.definitions.proofs.Frames.{frames-one_cut}
use Rattle.definitions.proofs.frame_laws.a_stream_is_cut_in_one_way.Goals as goal

pub returns : goal.returns
returns c = frames-one_cut
