use Rattle.std.proofs.Common.{List, ℕ, subst}
use Rattle.at_edge.specs.Writing.{Holds, Stopped}
use Rattle.http_wire.specs.Seen.{request_seen}
use Rattle.http_wire.specs.Written.{request_text}
use Rattle.sync_wire.proofs.Exchanges.{sends_whole, sends_part}
use Rattle.sync_wire.proofs.exchange.send.Goals as goal

pub returns-in-Ok : goal.returns-in-Ok
returns-in-Ok g c =
    let first = c.args.link.now in
    let mid = c.start.new.self in
    let now = c.write_request.new.sink in
    let before = g.L.Sink.sink mid in
    let after = g.L.Sink.sink now in
    let seen = request_seen c.args.request.now in
    let holds = subst (λ (h : List ℕ). Holds before after (request_text seen h)) c.as_bytes.ensures.value c.in-Ok.ensures in
    sends_whole (g.L.Link.link first) (g.L.Link.link mid) (g.L.Link.link now) (g.L.Source.source mid) (g.L.Source.source now) before after (request_text seen c.args.host.now)
    c.in_ok-start.ensures.0 c.in_ok-start.ensures.1 (g.met.L.Link.sides mid) (g.met.L.Link.sides now) holds

pub returns-in-Err : goal.returns-in-Err
returns-in-Err g c =
    let first = c.args.link.now in
    let mid = c.start.new.self in
    let now = c.write_request.new.sink in
    let before = g.L.Sink.sink mid in
    let after = g.L.Sink.sink now in
    let seen = request_seen c.args.request.now in
    let stopped = subst (λ (h : List ℕ). Stopped before after (request_text seen h) c.in-Err.ensures.0) c.as_bytes.ensures.value c.in-Err.ensures.1 in
    sends_part (g.L.Link.link first) (g.L.Link.link mid) (g.L.Link.link now) (g.L.Source.source mid) (g.L.Source.source now) before after (request_text seen c.args.host.now) c.in-Err.ensures.0
    c.in_ok-start.ensures.0 c.in_ok-start.ensures.1 (g.met.L.Link.sides mid) (g.met.L.Link.sides now) stopped
