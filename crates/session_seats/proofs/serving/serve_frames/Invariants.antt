use Rattle.std.proofs.Common.{◌≡◌, ◌≤◌, length}
use Rattle.definitions.specs.Limits.{most_payload_bytes}
use Rattle.call_supplies.specs.Supplies.{supplies}
use Rattle.session_seats.specs.Sessions.{pipe}
use Rattle.session_seats.proofs.SeatLaws.{SoFar}
use Rattle.session_seats.proofs.serving.serve_frames.Given as goal

-- the turns so far, over buffers that keep their room
abbrev pub invariant-loop-requests : goal.invariant-loop-requests
invariant-loop-requests g l = record {
  turns : SoFar l.requests l.at (g.T.CallStore.store l.initial.store) (g.T.CallStore.store l.store) (supplies (g.E.Entropy.entropy l.initial.rand) (g.C.Clock.clock l.initial.clock)) (supplies (g.E.Entropy.entropy l.rand) (g.C.Clock.clock l.clock))
      (pipe (g.S.Source.source l.initial.source) (g.K.Sink.sink l.initial.sink)) (pipe (g.S.Source.source l.source) (g.K.Sink.sink l.sink));
  buffer : length l.buffer.items ≡ most_payload_bytes;
  room : 68 ≤ l.frame.reserved;
}
