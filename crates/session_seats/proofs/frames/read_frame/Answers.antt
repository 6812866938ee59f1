use Rattle.session_seats.proofs.FrameParts.{behind_length}
use Rattle.session_seats.proofs.frames.read_frame.Goals as goal

pub returns-in-Length : goal.returns-in-Length
returns-in-Length g c =
    behind_length c.read_payload.result c.in-Length.length _ (g.S.Source.source c.read_length.new.source) _ _ c.in-Length.ensures.1 c.in-Length.ensures.0 c.read_payload.ensures
