use Rattle.std.proofs.Common.{[], ◌∷◌, ◌++◌}
use Rattle.seat_sessions.proofs.SeatLaws.{served_nothing, served_more}
use Rattle.seat_sessions.proofs.seat_worker.SeatWorkerWorker.work.Goals as goal

pub loop-init : goal.loop-init
loop-init g c = record { ready = c.requires; conns = []; served = served_nothing _ c.requires.free }

pub loop-preserved : goal.loop-preserved
loop-preserved g c =
    let next = c.in-None-next.ensures.next in
    record { ready = c.in-None-next.ensures.ready; conns = c.loop.invariant.conns ++ next.0 ∷ []; served = served_more _ _ _ c.loop.invariant.conns next.0 c.loop.invariant.served next.1 }
