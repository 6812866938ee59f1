use Rattle.std.proofs.Common.{Vec, Global, ap, ◌∙◌, Err}
use Rattle.std.proofs.lemmas.Result.{err_from_is_err_and}
use Rattle.http_wire.specs.Seen.{request_seen}
use Rattle.sync_wire.specs.Requests.{request_of, Status}
use Rattle.sync_wire.specs.Replies.{SaysStatus, NoStatus}
use Rattle.sync_wire.proofs.Exchanges.{ask_failed, ask_read}
use Rattle.record_model.specs.declared.places.Chain.{Chain}
use Rattle.sync_wire.proofs.asking.ask_status.Goals as goal

pub returns-in_err-body : goal.returns-in_err-body
returns-in_err-body g c =
    let left = c.from_residual-in_err-body in
    let p = err_from_is_err_and left.result left.ensures.1 in
    ask_failed (λ body (chains : Vec Chain Global). SaysStatus body chains.items) NoStatus (request_seen c.in_ok-request.request) (request_of c.args.peer.now.token Status) c.args.peer.now.host (g.L.Link.link c.args.link.now) (g.L.Link.link c.ask.new.link) c.in_ok-request.ensures
    c.in_err-body.field-0.0 left.result c.in_err-body.ensures (p.1 ∙ ap Err p.2)

pub returns : goal.returns
returns g c =
    ask_read (λ body (chains : Vec Chain Global). SaysStatus body chains.items) NoStatus (request_seen c.in_ok-request.request) (request_of c.args.peer.now.token Status) c.args.peer.now.host (g.L.Link.link c.args.link.now) (g.L.Link.link c.ask.new.link) c.in_ok-request.ensures
    c.in_ok-body.body c.as_slice.result.now c.read_chains.result c.in_ok-body.ensures c.as_slice.ensures c.read_chains.ensures
