use Rattle.session_seats.proofs.InputLaws.{input_ends}
use Rattle.session_seats.proofs.serving.serve_alone.Goals as goal

pub returns-clause-serves : goal.returns-clause-serves
returns-clause-serves g c = record { serves = c.serve_frames.ensures; runs = c.serve_frames.ensures.alone c.requires.alone }

pub returns-clause-ends : goal.returns-clause-ends
returns-clause-ends g c = λ payloads rest cut input. input_ends c.serve_frames.result _ _ _ _ _ _ c.serve_frames.ensures payloads rest cut input
