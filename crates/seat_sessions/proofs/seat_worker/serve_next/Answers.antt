use Rattle.std.proofs.Common.{sym, ◌∙◌}
use Rattle.seat_sessions.proofs.ServingLaws.{serves_conn}
use Rattle.seat_sessions.proofs.seat_worker.serve_next.Goals as goal

pub returns-clause-next : goal.returns-clause-next
returns-clause-next g c =
    let listener = g.A.Listener.listener in
    serves_conn c.args.store.now c.args.held.now c.in-Some.pass c.serve_session-outcome.result.1 (listener c.args.seat.now.listener) (listener c.accept.new.self) (listener c.finish.new.self) _ _ _ _ _ (sym c.take.ensures.value ∙ c.in-Some.is) c.in-Conn.ensures
    c.serve_session-outcome.ensures.serves c.finish.ensures
