use Rattle.std.proofs.Common.{List}
use Rattle.call_supplies.specs.Supplies.{supplies}
use Rattle.seat_sessions.specs.Seats.{seat_seen, MayServe, ConnServed, SeatServed}
use Rattle.seat_sessions.proofs.seat_worker.SeatWorkerWorker.work.Given as goal

-- the connections that were served so far
abbrev pub invariant-loop : goal.invariant-loop
invariant-loop g l = record {
  ready : MayServe l.self.store.now l.self.pass (g.A.Listener.listener l.self.seat.listener);
  conns : List ConnServed;
  served : SeatServed (seat_seen l.initial.self.store.now l.initial.self.pass (g.A.Listener.listener l.initial.self.seat.listener) (supplies (g.E.Entropy.entropy l.initial.self.seat.rand) (g.C.Clock.clock l.initial.self.seat.clock)))
      (seat_seen l.self.store.now l.self.pass (g.A.Listener.listener l.self.seat.listener) (supplies (g.E.Entropy.entropy l.self.seat.rand) (g.C.Clock.clock l.self.seat.clock))) conns;
}
