use Rattle.std.proofs.Common.{List, ℕ, Ok, Err, sym, ap, subst, ◌∙◌}
use Rattle.std.proofs.lemmas.Result.{err_from_is_err_and}
use Rattle.http_wire.specs.Reading.{TakesResponse}
use Rattle.http_wire.specs.Seen.{request_seen}
use Rattle.http_wire.specs.Written.{request_text}
use Rattle.sync_wire.specs.Exchanging.{Asks, SaysItself, NeverUnsaid}
use Rattle.sync_wire.proofs.Exchanges.{asks_refused, asks_answered}
use Rattle.sync_wire.proofs.exchange.ask.Goals as goal

pub returns-in_err-send : goal.returns-in_err-send
returns-in_err-send g c =
    let left = c.from_residual-in_err-send in
    let p = err_from_is_err_and left.result left.ensures.1 in
    subst (λ o. Asks SaysItself NeverUnsaid (request_text (request_seen c.args.request.now) c.args.host.now) (g.L.Link.link c.args.link.now) (g.L.Link.link c.send.new.link) o) (sym (p.1 ∙ ap Err p.2)) c.in_err-send.ensures

pub returns-in_err-response : goal.returns-in_err-response
returns-in_err-response g c =
    let mid = c.send.new.link in
    let now = c.read_response.new.source in
    let text = request_text (request_seen c.args.request.now) c.args.host.now in
    let left = c.from_residual-in_err-response in
    let p = err_from_is_err_and left.result left.ensures.1 in
    let fail = c.in_err-response.field-0.0 in
    let takes = subst (λ (held : List ℕ). TakesResponse (g.L.Source.source mid) (g.L.Source.source now) held c.read_response.new.self (Err fail)) c.in_ok-wire.ensures c.in_err-response.ensures in
    subst (λ o. Asks SaysItself NeverUnsaid text (g.L.Link.link c.args.link.now) (g.L.Link.link now) o) (sym (p.1 ∙ ap Err p.2))
    (asks_refused text (g.L.Link.link c.args.link.now) (g.L.Link.link mid) (g.L.Link.link now) (g.L.Source.source mid) (g.L.Source.source now) (g.L.Sink.sink mid) (g.L.Sink.sink now)
    c.read_response.new.self fail c.in_ok-send.ensures (g.met.L.Link.sides mid) (g.met.L.Link.sides now) takes)

pub returns : goal.returns
returns g c =
    let mid = c.send.new.link in
    let now = c.read_response.new.source in
    let text = request_text (request_seen c.args.request.now) c.args.host.now in
    let response = c.in_ok-response.response in
    let takes = subst (λ (held : List ℕ). TakesResponse (g.L.Source.source mid) (g.L.Source.source now) held c.read_response.new.self (Ok response)) c.in_ok-wire.ensures c.in_ok-response.ensures in
    asks_answered text (g.L.Link.link c.args.link.now) (g.L.Link.link mid) (g.L.Link.link now) (g.L.Source.source mid) (g.L.Source.source now) (g.L.Sink.sink mid) (g.L.Sink.sink now)
    c.read_response.new.self response c.body_of.result c.in_ok-send.ensures (g.met.L.Link.sides mid) (g.met.L.Link.sides now) takes c.body_of.ensures
